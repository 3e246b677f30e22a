-- Entries of graphs of components: one for each cell that is made of a component. This project's.
use Rattle.std.specs.Prelude.{◌≡◌, ℕ, ◌+◌, ◌<◌, ◌^◌, List, [], ◌∷◌, ◌++◌, length, map, flat_map, slice_index_or, Option, Vec, option_and_then, option_to_list}
use Rattle.std.specs.Int.{to_be_bytes, w32}
use Rattle.std.specs.declared.alloc.Global.{Global}
use Rattle.hw_graph.specs.Graph.{IsReadOrder, Reaches}
use Rattle.hw_graph.specs.declared.groups.Entry.{Entry}
use Rattle.hw_names.specs.Name.{Text}
use Rattle.cal_place.specs.Prototypes.{made_component}
use Rattle.cal_place.specs.declared.prototype.Prototype.{Prototype}
use Rattle.cal_place.specs.declared.nesting.PartOrder.{PartOrder}
use Rattle.cal_place.specs.declared.nesting.PartOrder.TheVariants.{Parts, Loop}

-- the component that a cell is made of, if it is made of one
abbrev pub part_in : Option Prototype → List ℕ
part_in made = option_to_list (option_and_then made_component made)

-- those of cells
abbrev pub parts_in : List (Option Prototype) → List ℕ
parts_in cells = flat_map part_in cells

-- a component reads its part, or a part its holder
abbrev pub part_read : ℕ → ℕ → Entry
part_read number part = record { key = number; value = part }

abbrev pub holder_read : ℕ → ℕ → Entry
holder_read number part = record { key = part; value = number }

-- the entries of components that are counted from a number on
abbrev pub entries_from : (ℕ → ℕ → Entry) → ℕ → List (Vec (Option Prototype) Global) → List Entry
entries_from entry number [] = []
entries_from entry number (cells ∷ made) = map (entry number) (parts_in cells.items) ++ entries_from entry (number + 1) made

-- texts that stand in the order of their numbers
pub record AreNumerals (count : ℕ) (names : List Text) : Type 0 where
  pub sized : length names ≡ count
  pub each : (k : ℕ) → k < count → slice_index_or names k [] ≡ to_be_bytes w32 k
  pub few : count < 2 ^ 32

-- the port is the least that lies on a cycle
pub record IsFirstOnCycle (reads : List (List ℕ)) (first : ℕ) : Type 0 where
  pub within : first < length reads
  pub looped : Reaches reads first first
  pub before : (n : ℕ) → n < first → Reaches reads n n → ⊥

-- an order of the graph, or the least port on a cycle
abbrev pub IsOrderOf : List (List ℕ) → PartOrder → Type 0
IsOrderOf reads (Parts order) = IsReadOrder reads order.items
IsOrderOf reads (Loop first) = IsFirstOnCycle reads first
