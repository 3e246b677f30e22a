-- The Verilog text of a netlist: one module, with a clock. This project's.
use Rattle.std.specs.Prelude.{◌++◌, codes}
use Rattle.hw_names.specs.Name.{Text}
use Rattle.net_core.specs.Netlist.{Netlist}
use Rattle.ver_print.specs.Cells.{cells_text}
use Rattle.ver_print.specs.Ports.{ports_text, wires_text}
use Rattle.ver_print.specs.Values.{drives_text}
use Rattle.ver_print.specs.Words.{escaped}

-- the ports, the wires, the cells' lines, and what drives each port
abbrev pub verilog_text : Netlist → Text
verilog_text n =
    codes "module " ++ escaped n.name ++ codes "(\n" ++ ports_text n ++ codes ");\n"
    ++ wires_text n ++ cells_text n.cells ++ drives_text n ++ codes "endmodule\n"
