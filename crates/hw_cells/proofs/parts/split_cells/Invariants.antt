use Rattle.std.proofs.Common.{ℕ, ◌<◌, [], length}
use Rattle.std.specs.Prelude.{All}
use Rattle.hw_graph.specs.contracts.groups.Groups.{the_view}
use Rattle.hw_cells.specs.inside.Parts.{Splits, cells_at}
use Rattle.hw_cells.proofs.PartLemmas.{IsAmongFirst}
use Rattle.hw_cells.proofs.parts.split_cells.Given as goal

abbrev pub invariant-loop-part : goal.invariant-loop-part
invariant-loop-part l =
    record {
      splits : Splits l.cells (IsAmongFirst l.cells (the_view l.parts-inside) l.part) l.initial.split.entries.items l.split.entries.items [] (cells_at l.cells l.split.left.items);
      within : All (λ (number : ℕ). number < length l.cells) l.split.left.items;
    }
