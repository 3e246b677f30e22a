-- What is told of cells' pins before their holders are gone through. This project's, for private functions alone.
use Rattle.std.specs.Prelude.{◌≡◌, ◌↔◌, ◌⊎◌, ℕ, ◌+◌, ◌<◌, ◌≤◌, List, length, map, slice_get, slice_index, Some, All, Contains}
use Rattle.std.specs.List.{flat_map}
use Rattle.hw_graph.specs.declared.groups.Entry.{Entry}
use Rattle.hw_cells.specs.Cells.{HasBit, IsTold}
use Rattle.hw_cells.specs.declared.cell.Cell.{Cell}
use Rattle.hw_cells.specs.declared.cell.Pin.{Pin}
use Rattle.hw_cells.specs.declared.told.Told.{Told}

-- the outputs of the cells, one cell's after another's
abbrev pub outputs_of : List Told → List ℕ
outputs_of cells = flat_map (λ (told : Told). told.outputs.items) cells

-- no more outputs than a word has bits, all nodes are some of the graph's, and what is told is so
pub record IsSound (reads : List (List ℕ)) (told : Told) : Type 0 where
  pub few : length told.outputs.items ≤ 64
  pub outputs : All (λ node. node < length reads) told.outputs.items
  pub inputs : All (λ node. node < length reads) told.inputs.items
  pub right : IsTold reads told

-- the bits of an input's word are those of its node's word from one on
abbrev pub IsShifted : List ℕ → ℕ → Told → Type 0
IsShifted words first told = (bit place : ℕ) → bit < length told.outputs.items → place < length told.words.items →
    HasBit (slice_index told.words.items place) bit ↔ HasBit (slice_index words (slice_index told.inputs.items place)) (first + bit)

-- it is told of all pins of the cell
pub record IsOf (told : Told) (cell : Cell) : Type 0 where
  pub few : length told.outputs.items ≤ 64
  pub words : length told.words.items ≡ length told.inputs.items
  pub outputs : told.outputs.items ≡ map (λ (pin : Pin). pin.node) cell.outputs.items
  pub inputs : told.inputs.items ≡ map (λ (pin : Pin). pin.node) cell.inputs.items

-- the port is the output, and the other one of the inputs, whose word has the bit
pub record IsMarked (words : List ℕ) (bit : ℕ) (output : Pin) (inputs : List Pin) (port other : ℕ) : Type 0 where
  pub place : ℕ
  pub input : Pin
  pub at : slice_get inputs place ≡ Some input
  pub marked : HasBit (slice_index words place) bit
  pub is_output : output.port ≡ port
  pub is_input : input.port ≡ other

-- the entries keep those before, and get all that the relation says, and nothing else
pub record AddsAll (says : ℕ → ℕ → Type 0) (old new : List Entry) : Type 0 where
  pub kept : (entry : Entry) → Contains old entry → Contains new entry
  pub only : (entry : Entry) → Contains new entry → Contains old entry ⊎ says entry.key entry.value
  pub all : (port other : ℕ) → says port other → Contains new (record { key = port; value = other })
