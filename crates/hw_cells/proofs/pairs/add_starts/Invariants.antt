use Rattle.std.proofs.Common.{take}
use Rattle.hw_cells.proofs.PairLemmas.{AddsSome}
use Rattle.hw_cells.proofs.pairs.add_starts.Given as goal

abbrev pub invariant-loop-output : goal.invariant-loop-output
invariant-loop-output l = AddsSome l.cell (take l.output-index l.cell.outputs.items) l.fn.starts.items l.starts.items
