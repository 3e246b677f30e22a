-- The entries that say which of their cells' inputs some outputs read. This project's, for private functions alone.
use Rattle.std.specs.Prelude.{◌≡◌, ◌⊎◌, ◌↔◌, ℕ, ◌==◌, ◌<◌, ◌≤◌, nat_eq, Bool, List, length, take, map, filter, slice_index, All, Contains, IsTrue}
use Rattle.std.specs.List.{list_any}
use Rattle.std.specs.Int.{bit_at}
use Rattle.hw_graph.specs.declared.groups.Entry.{Entry}
use Rattle.hw_cells.specs.Cells.{IsOrReaches}
use Rattle.hw_cells.specs.declared.cell.Cell.{Cell}
use Rattle.hw_cells.specs.declared.cell.Pin.{Pin}
use Rattle.hw_cells.specs.declared.pairs.Start.{Start}

-- an output of the cell, with the cell's inputs
abbrev pub IsStartOf : Cell → Start → Type 0
IsStartOf cell start = Contains cell.outputs.items start.output × (start.inputs.now ≡ cell.inputs.items)

-- the starts have each output of the cell with the cell's inputs, if it has inputs
abbrev pub HasStarts : List Start → Cell → Type 0
HasStarts starts cell = (output input : Pin) → Contains cell.outputs.items output → Contains cell.inputs.items input →
    (start : Start) × Contains starts start × (start.output ≡ output) × (start.inputs.now ≡ cell.inputs.items)

-- the list keeps its starts, and gets those of the cell
pub record AddsStarts (cell : Cell) (old new : List Start) : Type 0 where
  pub kept : (start : Start) → Contains old start → Contains new start
  pub only : (start : Start) → Contains new start → Contains old start ⊎ IsStartOf cell start
  pub all : HasStarts new cell

-- the nodes of the output and the inputs are some of so many
pub record IsWithin (nodes : ℕ) (start : Start) : Type 0 where
  pub output : start.output.node < nodes
  pub inputs : All (λ (input : Pin). input.node < nodes) start.inputs.now

-- whether the input's word has the bit
abbrev pub has_bit : List ℕ → ℕ → Pin → Bool
has_bit words bit input = bit_at (slice_index words input.node) bit == 1

-- whether the input's node is one of these
abbrev pub is_reached : List ℕ → Pin → Bool
is_reached nodes input = list_any (nat_eq input.node) nodes

-- the output reads the input
abbrev pub pair_entry : Pin → Pin → Entry
pair_entry output input = record { key = output.port; value = input.port }

-- the output reads those of its inputs that pass the test
abbrev pub pair_entries : (Pin → Bool) → Start → List Entry
pair_entries test start = map (pair_entry start.output) (filter test start.inputs.now)

-- the start's output is the port, the other one of its inputs, and in the graph the node of the one is or reaches that of the other
pub record ReadsFrom (reads : List (List ℕ)) (start : Start) (port other : ℕ) : Type 0 where
  pub input : Pin
  pub has_input : Contains start.inputs.now input
  pub is_output : start.output.port ≡ port
  pub is_input : input.port ≡ other
  pub reaches : IsOrReaches reads start.output.node input.node

-- the list keeps its entries, and gets those that say what the outputs of these starts read
pub record AddsPairs (reads : List (List ℕ)) (starts : List Start) (old new : List Entry) : Type 0 where
  pub kept : (entry : Entry) → Contains old entry → Contains new entry
  pub only : (entry : Entry) → Contains new entry → Contains old entry ⊎ ((start : Start) × Contains starts start × ReadsFrom reads start entry.key entry.value)
  pub all : (start : Start) (port other : ℕ) → Contains starts start → ReadsFrom reads start port other → Contains new (record { key = port; value = other })

-- exactly the node itself and all that it reaches
abbrev pub AreReached : List (List ℕ) → ℕ → List ℕ → Type 0
AreReached reads start nodes = (node : ℕ) → Contains nodes node ↔ IsOrReaches reads start node

-- the list keeps its entries, and gets those that say what the outputs of so many of the first starts read: of all, where it is said that it was all
pub record AddsFirst (reads : List (List ℕ)) (starts : List Start) (old new : List Entry) (all : Bool) : Type 0 where
  pub count : ℕ
  pub adds : AddsPairs reads (take count starts) old new
  pub whole : IsTrue all → length starts ≤ count
