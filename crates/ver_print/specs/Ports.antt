-- The ports of the Verilog module, and the wires inside it. This project's.
use Rattle.std.specs.Prelude.{List, ◌++◌, map, codes}
use Rattle.std.specs.List.{flat_map}
use Rattle.hw_names.specs.Name.{Text}
use Rattle.hw_prims.specs.Table.{Pin}
use Rattle.net_core.specs.Netlist.{Netlist, WireLine, CellOf}
use Rattle.net_core.specs.Rules.{PortLine, ports_at}
use Rattle.ver_print.specs.Words.{clock, escaped, inner_line, range}

-- a port of the module after another one
abbrev pub port_text : Text → Pin → Text
port_text direction p = codes ",\n  " ++ direction ++ codes " wire " ++ range p.width ++ codes " " ++ escaped p.name

-- the clock, then the inputs, then the outputs
abbrev pub ports_text : Netlist → Text
ports_text n =
    codes "  input wire " ++ clock ++ flat_map (port_text (codes "input")) n.ins ++ flat_map (port_text (codes "output")) n.outs ++ codes "\n"

abbrev pub wire_line : PortLine → Text
wire_line p = inner_line (codes "wire " ++ range p.width ++ codes " " ++ escaped p.name ++ codes ";")

-- the ports that are no ports of the module: wires, then the ports of each cell
abbrev pub inner_ports : Netlist → List PortLine
inner_ports n = flat_map ports_at (map WireLine n.wires ++ map CellOf n.cells)

abbrev pub wires_text : Netlist → Text
wires_text n = flat_map wire_line (inner_ports n)
