use Rattle.std.proofs.Common.{◌≡◌, ◌++◌, map, take}
use Rattle.hw_cells.specs.inside.Copies.{output_entry}
use Rattle.hw_cells.proofs.flat.add_outputs.Given as goal

abbrev pub invariant-loop-pin : goal.invariant-loop-pin
invariant-loop-pin l = l.entries.items ≡ l.fn.entries.items ++ map (output_entry l.first) (take l.pin-index l.outputs)
