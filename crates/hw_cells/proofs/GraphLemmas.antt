-- Cells that have the graphs of their components.
use Rattle.std.proofs.Common.{◌≡◌, ℕ, List, Option, Some, ap, sym, ◌∙◌}
use Rattle.std.specs.Prelude.{All}
use Rattle.std.proofs.lemmas.List.Elements.{All-contains}
use Rattle.std.proofs.lemmas.Option.{same_Some}
use Rattle.hw_cells.specs.Cells.{AreOfParts}
use Rattle.hw_cells.specs.declared.cell.Cell.{Cell}

-- the cell has the graph of its component
abbrev pub HasGraphOf : (ℕ → Option (List (List ℕ))) → Cell → Type 0
HasGraphOf graphs cell = graphs cell.part ≡ Some cell.reads.now

pub of_parts : (graphs : ℕ → Option (List (List ℕ))) (cells : List Cell) → All (HasGraphOf graphs) cells → AreOfParts cells
of_parts graphs cells have cell other has has_other same =
    let one = All-contains (HasGraphOf graphs) cells cell have has in
    let two = All-contains (HasGraphOf graphs) cells other have has_other in
    same_Some cell.reads.now other.reads.now (sym one ∙ ap graphs same ∙ two)
