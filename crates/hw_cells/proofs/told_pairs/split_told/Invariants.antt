use Rattle.std.proofs.Common.{ℕ, ◌<◌, [], length}
use Rattle.std.specs.Prelude.{All}
use Rattle.hw_cells.specs.inside.Parts.{Splits, cells_at}
use Rattle.hw_cells.proofs.ToldLemmas.{IsFirst}
use Rattle.hw_cells.proofs.told_pairs.split_told.Given as goal

abbrev pub invariant-loop-number : goal.invariant-loop-number
invariant-loop-number l =
    record {
      splits : Splits l.cells (IsFirst l.cells l.number) l.fn.entries.items l.entries.items [] (cells_at l.cells l.others.items);
      within : All (λ (number : ℕ). number < length l.cells) l.others.items;
    }
