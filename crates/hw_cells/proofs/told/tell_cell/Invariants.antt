use Rattle.std.proofs.Common.{◌≡◌, length}
use Rattle.hw_cells.proofs.ToldLemmas.{AreShifted}
use Rattle.hw_cells.proofs.told.tell_cell.Given as goal

abbrev pub invariant-loop-input : goal.invariant-loop-input
invariant-loop-input l =
    record {
      all : length l.told.items ≡ l.input-index;
      shifted : AreShifted l.words l.first l.input-items l.told.items;
    }
