-- Ports as code keeps them, as the rules speak of them. This project's.
use Rattle.std.specs.Prelude.{◌≡◌, List, [], ◌∷◌, ◌++◌, map, Option, Some, None}
use Rattle.hw_names.specs.Name.{Text, dotted}
use Rattle.hw_prims.specs.Table.{IsMade, inputs_of, outputs_of, input_names, output_names, pin_names}
use Rattle.hw_prims.specs.declared.prim.Primitive.{Primitive}
use Rattle.net_core.specs.Rules.{PortLine, cell_input, cell_output}
use Rattle.net_core.specs.declared.ports.Port.{Port}

abbrev pub port_line : Text → Port → PortLine
port_line name p = record { name = name; width = p.width; readable = p.readable; writable = p.writable }

-- each name with its port
abbrev pub port_lines : List Text → List Port → List PortLine
port_lines [] ports = []
port_lines (name ∷ names) [] = []
port_lines (name ∷ names) (p ∷ ports) = port_line name p ∷ port_lines names ports

-- the ports of a cell of this primitive, its inputs first
abbrev pub cell_ports : Primitive → Text → List PortLine
cell_ports prim cell = map (cell_input cell) (inputs_of prim) ++ map (cell_output cell) (outputs_of prim)

-- the full names of pins of a cell
abbrev pub full_names : Text → List Text → List Text
full_names cell pins = map (dotted cell) pins

-- the primitive, if one was made, has its parameters in range and the port names of its name
abbrev pub IsNamedAs : Text → Option Primitive → Type 0
IsNamedAs name None = Unit {0}
IsNamedAs name (Some prim) = IsMade prim × (pin_names (inputs_of prim) ≡ input_names name) × (pin_names (outputs_of prim) ≡ output_names name)
