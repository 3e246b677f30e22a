-- The ports of a component and the holes of its groups, as nodes of a graph, and their keys. This project's.
use Rattle.std.specs.Prelude.{◌≡◌, ◌≢◌, ℕ, ◌<◌, ◌^◌, List, [], ◌∷◌, ◌++◌, Option, Some, None, option_map, slice_index_or, AllPairs, IfSome}
use Rattle.std.specs.Borrow.{Bor}
use Rattle.std.specs.Int.{to_be_bytes, w64}
use Rattle.std.specs.List.{flat_map}
use Rattle.hw_names.specs.Name.{Text, text_of}
use Rattle.hw_prims.specs.Table.{Pin, pin_names}
use Rattle.net_core.specs.Numbers.{IsNumberOf}
use Rattle.cal_ast.specs.Ports.{inputs_in, outputs_in}
use Rattle.cal_ast.specs.Tree.{PortName, own, port_of, Component}
use Rattle.cal_ast.specs.Wires.{shown}
use Rattle.cal_wires.specs.declared.full_names.PortText.{PortText}
use Rattle.cal_wires.specs.declared.full_names.TheConstants.{BYTE, END, HOLE}
use Rattle.cal_wires.specs.declared.ports.NodeKey.{NodeKey}
use Rattle.cal_wires.specs.declared.ports.NodeKey.TheVariants as key
use Rattle.cal_wires.specs.declared.ports.Port.{Port}
use Rattle.cal_wires.specs.declared.pin_names.PinName.{PinName}
use Rattle.cal_wires.specs.declared.pin_names.PinName.TheVariants as pin

pub data Node : Type 0 where
  APort : PortName → Node
  -- the hole of the group of this number, those of invokes after the component's own
  AHole : ℕ → Node

-- each byte behind a mark, so that what ends a text is less than all that may follow
abbrev pub marked : Text → Text
marked text = flat_map (λ byte. BYTE ∷ byte ∷ []) text

abbrev pub cell_key : Option Text → Text
cell_key None = []
cell_key (Some cell) = BYTE ∷ cell

-- the key of a port is its full name and then its cell's, since names may have dots; keys stand in the order of full names, and those of holes after them
abbrev pub key_of : Node → Text
key_of (APort p) = marked (shown p) ++ END ∷ cell_key p.cell
key_of (AHole k) = HOLE ∷ to_be_bytes w64 k

-- the key tells the node: that of a hole has 64 bits of its number
abbrev pub HasKey : Node → Type 0
HasKey (APort p) = Unit {0}
HasKey (AHole k) = k < 2 ^ 64

-- the text is a node's key
pub record IsKey (key : Text) : Type 0 where
  pub node : Node
  pub has_key : HasKey node
  pub is : key ≡ key_of node

-- the port of these texts
abbrev pub name_of : PortText → PortName
name_of port = record { cell = option_map (λ (text : Bor (List ℕ)). text.now) port.cell; pin = port.pin.now }

-- the port, if the node is one
abbrev pub node_ports : Node → List PortName
node_ports (APort p) = p ∷ []
node_ports (AHole k) = []

-- the full name of a port; none of a hole
abbrev pub IsName : Node → Option Text → Type 0
IsName (APort p) name = name ≡ Some (shown p)
IsName (AHole k) name = name ≡ None

-- the key of an input of the component
abbrev pub input_key : Pin → Text
input_key p = key_of (APort (own p.name))

-- ---- ports by numbers

-- ports and holes by numbers: the names of the design, and the key of each
pub record PortList : Type 0 where
  pub names : List Text
  pub keys : List Text

abbrev pub pin_text : List Text → PinName → Text
pin_text names (pin.Number id) = text_of names id
pin_text names (pin.Text text) = text.now

abbrev pub PinHasNumber : List Text → PinName → Type 0
PinHasNumber names (pin.Number id) = IsNumberOf names id
PinHasNumber names (pin.Text text) = Unit {0}

-- the port of these numbers
abbrev pub port_by : List Text → Port → PortName
port_by names port = record { cell = option_map (text_of names) port.cell; pin = pin_text names port.pin }

abbrev pub AreNumbers : List Text → Port → Type 0
AreNumbers names port = IfSome port.cell (IsNumberOf names) × PinHasNumber names port.pin

-- the node of these numbers
abbrev pub node_in : List Text → NodeKey → Node
node_in texts (key.Own pin) = APort (own (slice_index_or texts pin []))
node_in texts (key.OfCell cell pin) = APort (port_of (slice_index_or texts cell []) (slice_index_or texts pin []))
node_in texts (key.Hole k) = AHole k

-- its numbers are those of texts, of which there are so many, and a hole's number has 64 bits
abbrev pub IsFit : ℕ → NodeKey → Type 0
IsFit count (key.Own pin) = pin < count
IsFit count (key.OfCell cell pin) = (cell < count) × (pin < count)
IsFit count (key.Hole k) = k < 2 ^ 64

abbrev pub AreDifferent : List NodeKey → Type 0
AreDifferent keys = AllPairs (λ a b. a ≢ b) keys

-- the names of a component's ports, inputs first
abbrev pub ports_in : Component → List Text
ports_in c = pin_names (inputs_in c ++ outputs_in c)
