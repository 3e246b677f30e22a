-- Cells by the components that they are made of, and what is known of them while they are gone through. This project's, for private functions alone.
use Rattle.std.specs.Prelude.{◌≡◌, ◌⊎◌, ℕ, List, [], ◌∷◌, Option, Some, None, slice_get, Contains}
use Rattle.std.specs.List.{flat_map}
use Rattle.hw_graph.specs.Graph.{HasRead}
use Rattle.hw_graph.specs.declared.groups.Entry.{Entry}
use Rattle.hw_cells.specs.Cells.{ReadsThrough}
use Rattle.hw_cells.specs.declared.cell.Cell.{Cell}
use Rattle.hw_cells.specs.declared.pairs.Start.{Start}
use Rattle.hw_cells.specs.inside.Pairs.{HasStarts, IsStartOf}

-- of these numbers, and no others, each stands in a group, and the cells of a group are of one component
pub record AreByPart (cells : List Cell) (numbers : List ℕ) (groups : List (List ℕ)) : Type 0 where
  pub only : (group number : ℕ) → HasRead groups group number → Contains numbers number
  pub all : (number : ℕ) → Contains numbers number → (group : ℕ) × HasRead groups group number
  pub same : (group one other : ℕ) (a b : Cell) → HasRead groups group one → HasRead groups group other →
      slice_get cells one ≡ Some a → slice_get cells other ≡ Some b → a.part ≡ b.part

-- one of the cells of these numbers
abbrev pub IsAmong : List Cell → List ℕ → Cell → Type 0
IsAmong cells numbers cell = (number : ℕ) × Contains numbers number × (slice_get cells number ≡ Some cell)

-- the cells of these numbers, in their order
abbrev pub one_or_none : Option Cell → List Cell
one_or_none (Some cell) = cell ∷ []
one_or_none None = []

abbrev pub cells_at : List Cell → List ℕ → List Cell
cells_at cells numbers = flat_map (λ number. one_or_none (slice_get cells number)) numbers

-- the entries say all that is read through the cell
abbrev pub SayAll : List Entry → Cell → Type 0
SayAll entries cell = (port other : ℕ) → ReadsThrough cell port other → Contains entries (record { key = port; value = other })

-- the cells that are left keep those before, and get others; each of the cells of these numbers is one of them or gives starts
pub record Takes (cells : List Cell) (numbers : List ℕ) (starts : List Start) (before after : List Cell) : Type 0 where
  pub kept : (cell : Cell) → Contains before cell → Contains after cell
  pub others : (cell : Cell) → Contains after cell → Contains before cell ⊎ Contains cells cell
  pub from : (start : Start) → Contains starts start → (cell : Cell) × IsAmong cells numbers cell × IsStartOf cell start
  pub each : (cell : Cell) → IsAmong cells numbers cell → Contains after cell ⊎ HasStarts starts cell

-- the entries keep those before, and get others that say what is read through cells, and so the cells that are left; of each of some cells the
-- entries say all, or it is left
pub record Splits (cells : List Cell) (some : Cell → Type 0) (old new : List Entry) (before after : List Cell) : Type 0 where
  pub kept : (entry : Entry) → Contains old entry → Contains new entry
  pub only : (entry : Entry) → Contains new entry → Contains old entry ⊎ ((cell : Cell) × Contains cells cell × ReadsThrough cell entry.key entry.value)
  pub left : (cell : Cell) → Contains before cell → Contains after cell
  pub others : (cell : Cell) → Contains after cell → Contains before cell ⊎ Contains cells cell
  pub each : (cell : Cell) → some cell → Contains after cell ⊎ SayAll new cell
