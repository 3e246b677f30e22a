use Rattle.std.proofs.Common.{length}
use Rattle.std.specs.Prelude.{All}
use Rattle.hw_cells.specs.Cells.{IsAskable}
use Rattle.hw_tests.proofs.cells.many_told.Given as goal

abbrev pub invariant-loop-number : goal.invariant-loop-number
invariant-loop-number l = All (IsAskable (length l.inside)) l.asked.items
