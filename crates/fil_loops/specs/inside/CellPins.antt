-- The ports of instances of components, as the graph of the component that has the instances knows them. This project's.
use Rattle.std.specs.Prelude.{◌≡◌, ◌⊎◌, ◌↔◌, ℕ, ◌<◌, ◌≤◌, true, false, List, slice_get, Option, None, Some, Contains}
use Rattle.hw_cells.specs.declared.cell.Cell.{Cell}
use Rattle.hw_cells.specs.declared.cell.CellPin.{CellPin}
use Rattle.hw_cells.specs.declared.cell.Pin.{Pin}
use Rattle.hw_graph.specs.declared.groups.Entry.{Entry}
use Rattle.hw_names.specs.Name.{Text, dotted}
use Rattle.fil_loops.specs.inside.Ports.{PortList}
use Rattle.fil_loops.specs.declared.inside.Inside.{Inside}

-- the full name can be that of a port of the instance of this number
pub record IsNamedAfter (instances : List Text) (name : Text) (instance : ℕ) : Type 0 where
  pub inst : Text
  pub port : Text
  pub instance_at : slice_get instances instance ≡ Some inst
  pub is : name ≡ dotted inst port

-- entries of these instances, with the node, are added
abbrev pub AddsInstances : List Text → Text → ℕ → List Entry → List Entry → Type 0
AddsInstances instances name node old new =
    (instance value : ℕ) → Contains new (record { key = instance; value = value }) ↔
    (Contains old (record { key = instance; value = value }) ⊎ ((value ≡ node) × IsNamedAfter instances name instance))

-- the node is a port of the instance of this number
pub record IsPortOfInstance (ports : PortList) (instance node : ℕ) : Type 0 where
  pub full : Text
  pub at : slice_get ports.names node ≡ Some full
  pub named : IsNamedAfter ports.instances full instance

-- the entries have each such node by the number of its instance
abbrev pub AreInstancePorts : PortList → List Entry → Type 0
AreInstancePorts ports entries = (instance node : ℕ) → Contains entries (record { key = instance; value = node }) ↔ IsPortOfInstance ports instance node

-- the pin is port `number` of the component, by its name, with the port's node inside
pub record IsNamedPin (inside : Inside) (name : Text) (port number : ℕ) (pin : Pin) : Type 0 where
  pub named : slice_get inside.names number ≡ Some name
  pub node : slice_get inside.graph.nodes.items number ≡ Some (Some pin.node)
  pub is_port : pin.port ≡ port

-- the ports' numbers are those of inputs first
abbrev pub IsInputPin : Inside → Text → ℕ → Pin → Type 0
IsInputPin inside name port pin = (number : ℕ) × (number < inside.graph.inputs) × IsNamedPin inside name port number pin

abbrev pub IsOutputPin : Inside → Text → ℕ → Pin → Type 0
IsOutputPin inside name port pin = (number : ℕ) × (inside.graph.inputs ≤ number) × IsNamedPin inside name port number pin

-- the pin, and whether it is an input; none where the component has no port of the name
pub record TellsPin (inside : Inside) (name : Text) (port : ℕ) (found : Option CellPin) : Type 0 where
  pub input : (pin : Pin) → (found ≡ Some (record { pin = pin; is_input = true })) ↔ IsInputPin inside name port pin
  pub output : (pin : Pin) → (found ≡ Some (record { pin = pin; is_input = false })) ↔ IsOutputPin inside name port pin

-- of these nodes, ports of the instance by their full names, the pins are those that are ones by the port's name
abbrev pub ArePins : (Text → ℕ → Pin → Type 0) → PortList → Text → List ℕ → List Pin → Type 0
ArePins is_pin ports inst nodes pins =
    (pin : Pin) → Contains pins pin ↔
    ((node : ℕ) × Contains nodes node × (name : Text) × (slice_get ports.names node ≡ Some (dotted inst name)) × is_pin name node pin)

-- the cell has the graph inside, and of these nodes those that are outputs and inputs there; nothing was told of them
pub record HasPins (ports : PortList) (instance : ℕ) (inside : Inside) (nodes : List ℕ) (cell : Cell) : Type 0 where
  pub inst : Text
  pub instance_at : slice_get ports.instances instance ≡ Some inst
  pub reads : cell.reads.now ≡ inside.graph.reads
  pub untold : cell.told ≡ None
  pub outputs : ArePins (IsOutputPin inside) ports inst nodes cell.outputs.items
  pub inputs : ArePins (IsInputPin inside) ports inst nodes cell.inputs.items
