-- The instances of components in a component, as cells of its graph, and the one graph of its ports and of its instances' graphs. This project's.
use Rattle.std.specs.Prelude.{◌≡◌, ◌↔◌, ℕ, ◌<◌, ◌≤◌, List, length, filter, slice_get, slice_index, Option, Some, All, Contains}
use Rattle.hw_cells.specs.Cells.{IsFit, IsLoopOf, IsOrReaches, ReadsThrough, is_below}
use Rattle.hw_cells.specs.declared.cell.Cell.{Cell}
use Rattle.hw_graph.specs.Graph as graph
use Rattle.hw_graph.specs.Graph.{AreInRange}
use Rattle.hw_names.specs.Name.{Text, HasNoDot, dotted}
use Rattle.fil_ast.specs.Tree.{Component, Design}
use Rattle.fil_ast.specs.Wires.{Reaches, ReadsPort, through_before, whole_scope}
use Rattle.fil_loops.specs.inside.Ports.{PortList}
use Rattle.fil_loops.specs.declared.inside.Inside.{Inside}

-- the instance of this number is made of a component of which this is known
abbrev pub IsInsideAt : List (Option ℕ) → List Inside → ℕ → Inside → Type 0
IsInsideAt parts insides instance inside = (part : ℕ) × (slice_get parts instance ≡ Some (Some part)) × (slice_get insides part ≡ Some inside)

-- the port of this number of what an instance is made of: its full name, and its node inside
pub record IsPortInside (inst : Text) (inside : Inside) (number node : ℕ) (port : Text) : Type 0 where
  pub name : Text
  pub name_at : slice_get inside.names number ≡ Some name
  pub is_port : dotted inst name ≡ port
  pub is_node : slice_get inside.graph.nodes.items number ≡ Some (Some node)

-- the ports are an output and an input of an instance of a component, and the one's node in that component's graph is or reaches the other's
pub record ReadsInside (parts : List (Option ℕ)) (insides : List Inside) (instances : List Text) (port other : Text) : Type 0 where
  pub instance : ℕ
  pub inst : Text
  pub instance_at : slice_get instances instance ≡ Some inst
  pub inside : Inside
  pub known : IsInsideAt parts insides instance inside
  pub output : ℕ
  pub input : ℕ
  pub is_output : inside.graph.inputs ≤ output
  pub is_input : input < inside.graph.inputs
  pub from : ℕ
  pub to : ℕ
  pub from_output : IsPortInside inst inside output from port
  pub to_input : IsPortInside inst inside input to other
  pub leads : IsOrReaches inside.graph.reads from to

-- between numbered ports, through the cells exactly what is read through instances of components
pub record AreCells (parts : List (Option ℕ)) (insides : List Inside) (ports : PortList) (cells : List Cell) : Type 0 where
  pub fit : All (IsFit (length ports.names)) cells
  pub each : (n m : ℕ) (port other : Text) → slice_get ports.names n ≡ Some port → slice_get ports.names m ≡ Some other →
      ((cell : Cell) × Contains cells cell × ReadsThrough cell n m) ↔ ReadsInside parts insides ports.instances port other

-- all ports of instances of components whose names have a dot have numbers
abbrev pub NumbersDotted : List (Option ℕ) → List Inside → PortList → Type 0
NumbersDotted parts insides ports =
    (instance : ℕ) (inst name : Text) (inside : Inside) → slice_get ports.instances instance ≡ Some inst → ¬ HasNoDot inst →
    IsInsideAt parts insides instance inside → Contains inside.names name → Contains ports.names (dotted inst name)

-- at the one place stands a port, and at the other one that it reads within a row
pub record ReadsAt (earlier : Design) (c : Component) (names : List Text) (number other : ℕ) : Type 0 where
  pub port : Text
  pub read : Text
  pub is_port : slice_get names number ≡ Some port
  pub is_read : slice_get names other ≡ Some read
  pub reads : ReadsPort (through_before earlier) (whole_scope earlier c) port read

-- a loop of places, at each of which stands a port that reads the next
abbrev pub IsLoopAt : Design → Component → List Text → List ℕ → Type 0
IsLoopAt earlier c names = IsLoopOf (ReadsAt earlier c names)

-- a graph whose first nodes are ports of the component, and the others those of its instances' graphs. Between the first it leads as they reach one another.
-- All that is read and reads is among them; a loop that starts with one is a loop of them, but for the nodes between.
pub record LeadsAsRead (earlier : Design) (c : Component) (names : List Text) (reads : List (List ℕ)) : Type 0 where
  pub in_range : AreInRange reads
  pub all : length names ≤ length reads
  pub reaches : (port other : Text) (n m : ℕ) → slice_get names n ≡ Some port → slice_get names m ≡ Some other →
      graph.Reaches reads n m ↔ Reaches (through_before earlier) (whole_scope earlier c) other port
  pub between : (before port after : Text) → ReadsPort (through_before earlier) (whole_scope earlier c) before port →
      ReadsPort (through_before earlier) (whole_scope earlier c) port after → Contains names port
  pub loops : (numbers : List ℕ) → graph.IsCycle reads numbers → slice_index numbers 0 < length names →
      IsLoopAt earlier c names (filter (is_below (length names)) numbers)
