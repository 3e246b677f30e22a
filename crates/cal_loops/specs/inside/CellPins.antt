-- The ports of cells that are made of components, as the graph of the component that has the cells knows them. This project's.
use Rattle.std.specs.Prelude.{◌≡◌, ◌↔◌, ℕ, ◌<◌, ◌≤◌, true, false, List, length, slice_get, Option, Some, Contains, IfSome}
use Rattle.std.specs.Borrow.{Bor}
use Rattle.hw_cells.specs.declared.cell.Cell.{Cell}
use Rattle.hw_cells.specs.declared.cell.CellPin.{CellPin}
use Rattle.hw_cells.specs.declared.cell.Pin.{Pin}
use Rattle.hw_cells.specs.declared.told.Told.{Told}
use Rattle.hw_graph.specs.declared.groups.Entry.{Entry}
use Rattle.hw_names.specs.Name.{Text}
use Rattle.cal_ast.specs.Naming.{cell_names}
use Rattle.cal_ast.specs.Ports.{inputs_in, part_in}
use Rattle.cal_ast.specs.Tree.{Component, Design, port_of}
use Rattle.cal_place.specs.FirstPlaces.{IsFirst}
use Rattle.cal_wires.specs.Nodes.{APort, ports_in}
use Rattle.cal_wires.specs.WireGraphs.{HasNumber}
use Rattle.cal_loops.specs.declared.cells.inside.Inside.{Inside}
use Rattle.cal_wires.specs.declared.graph.WireGraph.{WireGraph}

-- the node of the graph is a port of the component's cell of this number, and that is made of a component
pub record IsPortOfCell (design : Design) (c : Component) (g : WireGraph) (cell node : ℕ) : Type 0 where
  pub name : Text
  pub pin : Text
  pub first : IsFirst (cell_names c.cells) name cell
  pub part : Component
  pub made : part_in design c name ≡ Some part
  pub at : HasNumber g (APort (port_of name pin)) node

-- the nodes are all such ports of the cell
abbrev pub ArePortsOfCell : Design → Component → WireGraph → ℕ → List ℕ → Type 0
ArePortsOfCell design c g cell nodes = (node : ℕ) → Contains nodes node ↔ IsPortOfCell design c g cell node

-- the entries have each such port by the number of its cell
abbrev pub AreCellPorts : Design → Component → WireGraph → List Entry → Type 0
AreCellPorts design c g entries = (cell node : ℕ) → Contains entries (record { key = cell; value = node }) ↔ IsPortOfCell design c g cell node

-- the pin is the port of this number of a cell that is made of the component, with the port's node inside
pub record IsPinAt (g : WireGraph) (part : Component) (inside : Inside) (number : ℕ) (pin : Pin) : Type 0 where
  pub cell : Text
  pub name : Text
  pub at : HasNumber g (APort (port_of cell name)) pin.port
  pub first : IsFirst (ports_in part) name number
  pub node : slice_get inside.graph.nodes.items number ≡ Some (Some pin.node)

-- the ports' numbers are those of inputs first
abbrev pub IsInputPin : WireGraph → Component → Inside → Pin → Type 0
IsInputPin g part inside pin = (number : ℕ) × (number < length (inputs_in part)) × IsPinAt g part inside number pin

abbrev pub IsOutputPin : WireGraph → Component → Inside → Pin → Type 0
IsOutputPin g part inside pin = (number : ℕ) × (length (inputs_in part) ≤ number) × IsPinAt g part inside number pin

-- the pin of this node of the graph, and whether it is an input; none where the node is no such port, or has no node inside
pub record TellsPin (g : WireGraph) (part : Component) (inside : Inside) (port : ℕ) (found : Option CellPin) : Type 0 where
  pub same : IfSome found (λ f. f.pin.port ≡ port)
  pub input : (pin : Pin) → pin.port ≡ port → (found ≡ Some (record { pin = pin; is_input = true })) ↔ IsInputPin g part inside pin
  pub output : (pin : Pin) → pin.port ≡ port → (found ≡ Some (record { pin = pin; is_input = false })) ↔ IsOutputPin g part inside pin

-- the pins are those of these nodes that are ones
abbrev pub ArePins : (Pin → Type 0) → List ℕ → List Pin → Type 0
ArePins is_pin ports pins = (pin : Pin) → Contains pins pin ↔ (Contains ports pin.port × is_pin pin)

-- the cell has the graph inside and what is told of it there, if anything, and of these nodes those that are outputs and inputs there
pub record HasPins (g : WireGraph) (part : Component) (inside : Inside) (ports : List ℕ) (cell : Cell) : Type 0 where
  pub reads : cell.reads.now ≡ inside.graph.reads
  pub told : IfSome cell.told (λ (told : Bor Told). Contains inside.told.cells.items told.now)
  pub outputs : ArePins (IsOutputPin g part inside) ports cell.outputs.items
  pub inputs : ArePins (IsInputPin g part inside) ports cell.inputs.items
