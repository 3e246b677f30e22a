-- The wires of a component as a graph of its ports and of the holes of its groups: a port that is assigned in a group reads the group's hole, and the hole
-- reads what the group's done lines read, and the component's own go. Holes: Calyx, ASPLOS 2021; the graph is this project's.
use Rattle.std.specs.Prelude.{◌≡◌, ◌⊎◌, ◌↔◌, ℕ, List, slice_get, codes, Some, All, Contains}
use Rattle.hw_graph.specs.Graph as graph
use Rattle.hw_graph.specs.declared.groups.Entry.{Entry}
use Rattle.hw_names.specs.Name.{Text, KeepsTexts}
use Rattle.cal_ast.specs.Sides.{IsSource}
use Rattle.cal_ast.specs.Tree.{PortName, own, Assignment, DoneLine, GroupDef, Component, Design}
use Rattle.cal_ast.specs.Wires.{ReadsByPrimitive, CrossesCell, IsAssignmentOf, Reaches, all_groups, done_ports, set_ports}
use Rattle.cal_wires.specs.Nodes.{Node, APort, AHole, HasKey, IsKey, key_of}
use Rattle.cal_wires.specs.declared.graph.Hole.{Hole}
use Rattle.cal_wires.specs.declared.graph.WireGraph.{WireGraph}

-- the node has this number in the graph
pub record HasNumber (g : WireGraph) (node : Node) (number : ℕ) : Type 0 where
  pub has_key : HasKey node
  pub at : slice_get g.ports.keys number ≡ Some (key_of node)

abbrev pub HasHole : WireGraph → Hole → Type 0
HasHole g hole = HasNumber g (AHole hole.group) hole.node

-- an entry of the graph says that the one reads the other
pub record HasReading (g : WireGraph) (node other : Node) : Type 0 where
  pub entry : Entry
  pub there : Contains g.entries.items entry
  pub key : HasNumber g node entry.key
  pub value : HasNumber g other entry.value

-- the new graph has the readings of the old one, those of P, and no others; numbers keep their keys
pub record Adds (P : Node → Node → Type 0) (old new : WireGraph) : Type 0 where
  pub names : new.ports.names ≡ old.ports.names
  pub texts : KeepsTexts old.ports.keys new.ports.keys
  pub nodes : All IsKey old.ports.keys → All IsKey new.ports.keys
  pub has : (node other : Node) → HasReading new node other ↔ (HasReading old node other ⊎ P node other)

-- the same, where no hole is made
pub record Grows (P : Node → Node → Type 0) (old new : WireGraph) : Type 0 where
  pub adds : Adds P old new
  pub holes : new.holes ≡ old.holes

-- no pair
abbrev pub NoPair : Node → Node → Type 0
NoPair n o = ⊥

-- the pair and no other
abbrev pub IsPair : Node → Node → Node → Node → Type 0
IsPair node other n o = (node ≡ n) × (other ≡ o)

-- the ports have an order in which each comes after all that it reads
abbrev pub HasOrder : List (List ℕ) → Type 0
HasOrder reads = (order : List ℕ) × graph.IsReadOrder reads order

-- group k of the component, those of its invokes among them
abbrev pub IsGroupAt : Design → Component → ℕ → GroupDef → Type 0
IsGroupAt design c k g = slice_get (all_groups design c) k ≡ Some g

-- within a row a port or a hole of the component reads another
pub data NodeReads (design : Design) (c : Component) : Node → Node → Type 0 where
  -- an assignment of the port has the other in its source or guard
  BySet : (a : Assignment) (other : PortName) → IsAssignmentOf design c a → Contains (set_ports a) other → NodeReads design c (APort a.dst) (APort other)
  -- the port is assigned in the group
  InGroup : (k : ℕ) (g : GroupDef) (a : Assignment) → IsGroupAt design c k g → Contains g.sets a → NodeReads design c (APort a.dst) (AHole k)
  -- the group's done line has the port in its source or guard
  OfDone : (k : ℕ) (g : GroupDef) (d : DoneLine) (other : PortName) → IsGroupAt design c k g → Contains g.dones d → Contains (done_ports d) other →
      NodeReads design c (AHole k) (APort other)
  -- the component's input go starts control
  OfGo : (k : ℕ) (g : GroupDef) → IsGroupAt design c k g → IsSource design c (own (codes "go")) → NodeReads design c (AHole k) (APort (own (codes "go")))
  OfPrimitive : (port other : PortName) → ReadsByPrimitive c port other → NodeReads design c (APort port) (APort other)
  OfPart : (part : Component) (port other : PortName) (output input : Text) → CrossesCell design c part port other output input →
      Reaches design part (own output) (own input) → NodeReads design c (APort port) (APort other)

-- the nodes are ports of a cell that is made of a component, and the one reaches the other there
pub record ReadsByPart (design : Design) (c : Component) (node other : Node) : Type 0 where
  pub part : Component
  pub port : PortName
  pub input : PortName
  pub is_port : node ≡ APort port
  pub is_input : other ≡ APort input
  pub output_name : Text
  pub input_name : Text
  pub crosses : CrossesCell design c part port input output_name input_name
  pub reaches : Reaches design part (own output_name) (own input_name)
