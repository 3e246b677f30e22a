-- The cells of a component that are made of components, and the one graph of its ports and of its cells' graphs. This project's.
use Rattle.std.specs.Prelude.{◌≡◌, ◌⊎◌, ◌↔◌, ℕ, ◌<◌, ◌≤◌, List, length, filter, slice_get, slice_index, Some, All, Contains}
use Rattle.hw_cells.specs.Cells.{IsFit, IsLoopOf, ReadsThrough, is_below}
use Rattle.hw_cells.specs.declared.cell.Cell.{Cell}
use Rattle.hw_graph.specs.Graph as graph
use Rattle.hw_graph.specs.Graph.{AreInRange}
use Rattle.hw_names.specs.Name.{Text}
use Rattle.cal_ast.specs.Tree.{Component, Design, own}
use Rattle.cal_wires.specs.WireGraphs.{ReadsByPart}
use Rattle.cal_wires.specs.Nodes.{APort, HasKey, IsKey, Node, key_of}
use Rattle.cal_wires.specs.WireGraphs.{HasNumber, NodeReads}
use Rattle.cal_wires.specs.declared.graph.WireGraph.{WireGraph}

-- among the ports that the graph has, through the cells exactly those read others that do so through cells that are made of components
pub record AreCells (design : Design) (c : Component) (g : WireGraph) (cells : List Cell) : Type 0 where
  pub fit : All (IsFit (length g.ports.keys)) cells
  pub each : (number other : ℕ) (node read : Node) → HasNumber g node number → HasNumber g read other →
      ((cell : Cell) × Contains cells cell × ReadsThrough cell number other) ↔ ReadsByPart design c node read

-- within a row the port or hole reads the other, directly or through others
pub data NodeReaches (design : Design) (c : Component) : Node → Node → Type 0 where
  Directly : (node other : Node) → NodeReads design c node other → NodeReaches design c node other
  Through : (node next other : Node) → NodeReads design c node next → NodeReaches design c next other → NodeReaches design c node other

-- the port or hole stands at this place among the keys
pub record IsNodeAt (keys : List Text) (node : Node) (number : ℕ) : Type 0 where
  pub has_key : HasKey node
  pub at : slice_get keys number ≡ Some (key_of node)

-- at the one place stands a port or hole, and at the other one that it reads
pub record ReadsAt (design : Design) (c : Component) (keys : List Text) (number other : ℕ) : Type 0 where
  pub node : Node
  pub read : Node
  pub is_node : IsNodeAt keys node number
  pub is_read : IsNodeAt keys read other
  pub reads : NodeReads design c node read

-- a loop of places, at each of which stands what reads the next
abbrev pub IsLoopAt : Design → Component → List Text → List ℕ → Type 0
IsLoopAt design c keys = IsLoopOf (ReadsAt design c keys)

-- a graph whose first nodes are ports and holes of the component, by their keys, and the others those of its cells' graphs. Between the first it leads as they
-- read one another. All that lies on a way between own ports, or on a loop, is among them; a loop that starts with one is a loop of them, but for the nodes
-- between.
pub record LeadsAsRead (design : Design) (c : Component) (keys : List Text) (reads : List (List ℕ)) : Type 0 where
  pub nodes : All IsKey keys
  pub in_range : AreInRange reads
  pub all : length keys ≤ length reads
  pub reaches : (node other : Node) (n m : ℕ) → IsNodeAt keys node n → IsNodeAt keys other m → graph.Reaches reads n m ↔ NodeReaches design c node other
  pub between : (before node after : Node) → NodeReads design c before node → NodeReads design c node after → (n : ℕ) × IsNodeAt keys node n
  pub own_port : (port : Text) (other : Node) → NodeReads design c (APort (own port)) other ⊎ NodeReads design c other (APort (own port)) →
      (n : ℕ) × IsNodeAt keys (APort (own port)) n
  pub loops : (numbers : List ℕ) → graph.IsCycle reads numbers → slice_index numbers 0 < length keys →
      IsLoopAt design c keys (filter (is_below (length keys)) numbers)
