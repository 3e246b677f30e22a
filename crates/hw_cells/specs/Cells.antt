-- Ports that read one another, at once or through cells that have graphs of their own. This project's.
use Rattle.std.specs.Prelude.{◌≡◌, ◌⊎◌, ◌↔◌, ℕ, ◌+◌, ◌-◌, ◌<◌, ◌≤◌, nat_lt, Bool, List, [], length, filter, slice_get, slice_index, Option, Some, All, Contains, IfSome}
use Rattle.std.specs.Borrow.{Bor}
use Rattle.std.specs.Int.{bit_at}
use Rattle.hw_graph.specs.Graph as graph
use Rattle.hw_graph.specs.Graph.{AreInRange}
use Rattle.hw_graph.specs.declared.groups.Entry.{Entry}
use Rattle.hw_cells.specs.declared.cell.Cell.{Cell}
use Rattle.hw_cells.specs.declared.cell.Pin.{Pin}
use Rattle.hw_cells.specs.declared.told.Told.{Told}

-- the nodes are one, or the one reaches the other
abbrev pub IsOrReaches : List (List ℕ) → ℕ → ℕ → Type 0
IsOrReaches reads node other = (node ≡ other) ⊎ graph.Reaches reads node other

-- through the cell the one port reads the other: it is an output, the other an input, and in the cell's graph the node of the one reaches that of the other
pub record ReadsThrough (cell : Cell) (port other : ℕ) : Type 0 where
  pub output : Pin
  pub input : Pin
  pub has_output : Contains cell.outputs.items output
  pub has_input : Contains cell.inputs.items input
  pub is_output : output.port ≡ port
  pub is_input : input.port ≡ other
  pub reaches : IsOrReaches cell.reads.now output.node input.node

-- the port reads the other, as an entry says or through a cell
abbrev pub Reads : List Entry → List Cell → ℕ → ℕ → Type 0
Reads entries cells port other =
    Contains entries (record { key = port; value = other }) ⊎ ((cell : Cell) × Contains cells cell × ReadsThrough cell port other)

-- the port reads the other, directly or through others
pub data Reaches (entries : List Entry) (cells : List Cell) : ℕ → ℕ → Type 0 where
  Directly : (port other : ℕ) → Reads entries cells port other → Reaches entries cells port other
  Through : (port next other : ℕ) → Reads entries cells port next → Reaches entries cells next other → Reaches entries cells port other

-- distinct places, of which each leads to the next, and the last to the first
pub record IsLoopOf (leads : ℕ → ℕ → Type 0) (places : List ℕ) : Type 0 where
  pub some : 0 < length places
  pub along : (i : ℕ) → i + 1 < length places → leads (slice_index places i) (slice_index places (i + 1))
  pub back : leads (slice_index places (length places - 1)) (slice_index places 0)
  pub once : (i j : ℕ) → i < length places → j < length places → slice_index places i ≡ slice_index places j → i ≡ j

-- a loop of ports, of which each reads the next
abbrev pub IsLoop : List Entry → List Cell → List ℕ → Type 0
IsLoop entries cells = IsLoopOf (Reads entries cells)

-- the word has the bit
abbrev pub HasBit : ℕ → ℕ → Type 0
HasBit word bit = bit_at word bit ≡ 1

-- no more outputs than a word has bits, all nodes are some of so many, and nothing is told yet
pub record IsAskable (nodes : ℕ) (told : Told) : Type 0 where
  pub few : length told.outputs.items ≤ 64
  pub outputs : All (λ node. node < nodes) told.outputs.items
  pub inputs : All (λ node. node < nodes) told.inputs.items
  pub untold : told.words.items ≡ []

-- the k-th bit of an input's word tells whether the k-th output is the input or reaches it; nothing is told of an input without a word
abbrev pub IsTold : List (List ℕ) → Told → Type 0
IsTold reads told = (bit place : ℕ) → bit < length told.outputs.items → place < length told.words.items →
    HasBit (slice_index told.words.items place) bit ↔ IsOrReaches reads (slice_index told.outputs.items bit) (slice_index told.inputs.items place)

-- the pin is one of so many ports, and its node one of so many nodes
abbrev pub IsPinWithin : ℕ → ℕ → Pin → Type 0
IsPinWithin ports nodes pin = (pin.port < ports) × (pin.node < nodes)

-- a cell of a holder that has so many ports
pub record IsFit (ports : ℕ) (cell : Cell) : Type 0 where
  pub in_range : AreInRange cell.reads.now
  pub told : IfSome cell.told (λ (told : Bor Told). IsTold cell.reads.now told.now)
  pub outputs : All (IsPinWithin ports (length cell.reads.now)) cell.outputs.items
  pub inputs : All (IsPinWithin ports (length cell.reads.now)) cell.inputs.items

-- cells of one component have one graph
abbrev pub AreOfParts : List Cell → Type 0
AreOfParts cells = (cell other : Cell) → Contains cells cell → Contains cells other → cell.part ≡ other.part → cell.reads.now ≡ other.reads.now

-- no port is an output of the cell and an input
abbrev pub HasTwoSides : Cell → Type 0
HasTwoSides cell = (output input : Pin) → Contains cell.outputs.items output → Contains cell.inputs.items input → output.port ≡ input.port → ⊥

-- a graph of so many ports alone: one reaches another exactly where it reads it through the cell
pub record IsCondensed (ports : ℕ) (cell : Cell) (reads : List (List ℕ)) : Type 0 where
  pub all : length reads ≡ ports
  pub in_range : AreInRange reads
  pub reaches : (port other : ℕ) → graph.Reaches reads port other ↔ ReadsThrough cell port other

-- the nodes that ports have, by the ports' numbers, are nodes of the graph
abbrev pub HasOwnNodes : List (List ℕ) → List (Option ℕ) → Type 0
HasOwnNodes reads nodes = (n node : ℕ) → slice_get nodes n ≡ Some (Some node) → node < length reads

-- whether the number is below the count
abbrev pub is_below : ℕ → ℕ → Bool
is_below count number = nat_lt number count

-- a graph whose first nodes are the ports: between them it leads as they read one another, and a loop of it that starts with a port is one of theirs, but
-- for the nodes between
pub record IsFlat (entries : List Entry) (ports : ℕ) (cells : List Cell) (reads : List (List ℕ)) : Type 0 where
  pub in_range : AreInRange reads
  pub all : ports ≤ length reads
  pub reaches : (port other : ℕ) → port < ports → other < ports → graph.Reaches reads port other ↔ Reaches entries cells port other
  pub loops : (nodes : List ℕ) → graph.IsCycle reads nodes → slice_index nodes 0 < ports → IsLoop entries cells (filter (is_below ports) nodes)
