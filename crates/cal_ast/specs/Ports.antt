-- The ports of a component, and those of its cells: one look-up of a name gives a port with its side and width. Calyx, ASPLOS 2021; which ports are
-- implied, and that a name given twice means its first place, are this project's.
use Rattle.std.specs.Prelude.{ℕ, Bool, true, false, not, ◌&&◌, List, [], ◌∷◌, ◌++◌, map, find, if◌then◌else◌, bytes_eq, codes}
use Rattle.std.specs.Prelude.{Option, Some, None, is_some, option_map, option_and_then}
use Rattle.std.specs.List.{list_any}
use Rattle.hw_names.specs.Name.{Text}
use Rattle.hw_prims.specs.Table.{Pin, pin, prim_of, is_primitive, inputs_of, outputs_of}
use Rattle.hw_prims.specs.declared.prim.Primitive.{Primitive}
use Rattle.cal_ast.specs.Tree.{PortName, CellDef, Assignment, ControlSection, Absent, Empty, Body, Component, Design}

-- the port is the component's own, of this name
abbrev pub is_own : Text → PortName → Bool
is_own name p = not (is_some p.cell) && bytes_eq p.pin name

-- one of the assignments drives the component's own port `done`
abbrev pub drives_done : List Assignment → Bool
drives_done sets = list_any (λ (a : Assignment). is_own (codes "done") a.dst) sets

-- a component is bare where it has no control section, or where its control section is empty and a continuous assignment drives its port `done`. It has
-- just its written ports, and no control starts it; any other component has a `go` that starts its control and a `done` that its control gives
abbrev pub is_bare_by : ControlSection → List Assignment → Bool
is_bare_by Absent sets = true
is_bare_by Empty sets = drives_done sets
is_bare_by (Body s) sets = false

abbrev pub is_bare : Component → Bool
is_bare c = is_bare_by c.control c.sets

abbrev pub has_pin : List Pin → Text → Bool
has_pin pins name = list_any (λ (p : Pin). bytes_eq p.name name) pins

-- the pins, and one of this name last, of width 1, where there is none
abbrev pub with_pin : Text → List Pin → List Pin
with_pin name pins = if has_pin pins name then pins else pins ++ pin name 1 ∷ []

-- the inputs and outputs of a component; one that isn't bare has a go and a done, written or implied
abbrev pub inputs_in : Component → List Pin
inputs_in c = if is_bare c then c.ins else with_pin (codes "go") c.ins

abbrev pub outputs_in : Component → List Pin
outputs_in c = if is_bare c then c.outs else with_pin (codes "done") c.outs

-- the first cell, and the first component, of a name
abbrev pub cell_named : List CellDef → Text → Option CellDef
cell_named cells name = find (λ (c : CellDef). bytes_eq c.name name) cells

abbrev pub component_named : Design → Text → Option Component
component_named design name = find (λ (c : Component). bytes_eq c.name name) design

-- the primitive that a cell is made of; a primitive's name means the primitive
abbrev pub primitive_of : CellDef → Option Primitive
primitive_of c = prim_of c.made c.params

-- the component that a cell is made of
abbrev pub part_of : Design → CellDef → Option Component
part_of design c = if is_primitive c.made then None else component_named design c.made

-- the same for the cell of a name
abbrev pub primitive_in : Component → Text → Option Primitive
primitive_in c cell = option_and_then primitive_of (cell_named c.cells cell)

abbrev pub part_in : Design → Component → Text → Option Component
part_in design c cell = option_and_then (part_of design) (cell_named c.cells cell)

-- the inputs and outputs of what a cell is made of
abbrev pub made_inputs : Option Primitive → Option Component → List Pin
made_inputs (Some prim) part = inputs_of prim
made_inputs None (Some part) = inputs_in part
made_inputs None None = []

abbrev pub made_outputs : Option Primitive → Option Component → List Pin
made_outputs (Some prim) part = outputs_of prim
made_outputs None (Some part) = outputs_in part
made_outputs None None = []

abbrev pub cell_inputs : Design → Component → Text → List Pin
cell_inputs design c cell = made_inputs (primitive_in c cell) (part_in design c cell)

abbrev pub cell_outputs : Design → Component → Text → List Pin
cell_outputs design c cell = made_outputs (primitive_in c cell) (part_in design c cell)

-- the sides of a signature
pub data Side : Type 0 where
  Input : Side
  Output : Side

-- a port of a signature, with its side
pub record SidedPin : Type 0 where
  pub side : Side
  pub pin : Pin

abbrev pub on_side : Side → List Pin → List SidedPin
on_side side pins = map (λ (p : Pin). record { side = side; pin = p }) pins

-- the ports of a signature: its inputs, and then its outputs
abbrev pub both_sides : List Pin → List Pin → List SidedPin
both_sides ins outs = on_side Input ins ++ on_side Output outs

-- the ports in the place of a port's cell: the component's own, or those of the cell
abbrev pub ports_at : Design → Component → Option Text → List SidedPin
ports_at design c None = both_sides (inputs_in c) (outputs_in c)
ports_at design c (Some cell) = both_sides (cell_inputs design c cell) (cell_outputs design c cell)

-- the first port of the name
abbrev pub port_named : List SidedPin → Text → Option SidedPin
port_named ports name = find (λ (p : SidedPin). bytes_eq p.pin.name name) ports

-- the port that a line of the component names. Whether it is there, its width and its side are read here alone
abbrev pub port_in : Design → Component → PortName → Option SidedPin
port_in design c p = port_named (ports_at design c p.cell) p.pin

abbrev pub width_in : Design → Component → PortName → Option ℕ
width_in design c p = option_map (λ (q : SidedPin). q.pin.width) (port_in design c p)

abbrev pub side_in : Design → Component → PortName → Option Side
side_in design c p = option_map (λ (q : SidedPin). q.side) (port_in design c p)
