use Rattle.std.proofs.Common.{◌≡◌, take}
use Rattle.hw_cells.specs.inside.Told.{outputs_of}
use Rattle.hw_cells.proofs.told.all_outputs.Given as goal

abbrev pub invariant-loop-cell : goal.invariant-loop-cell
invariant-loop-cell l = l.nodes.items ≡ outputs_of (take l.cell-index l.cells)
