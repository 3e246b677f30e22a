-- The text of a module, part by part.
use Rattle.std.proofs.Common.{◌≡◌, ◌++◌, codes, flat_map, ap}
use Rattle.std.proofs.lemmas.List.Folds.{flat_map-map}
use Rattle.hw_names.specs.Name.{Text, text_of}
use Rattle.net_core.specs.Netlist.{cell_of, netlist_of}
use Rattle.net_core.specs.declared.net.Net.{Net}
use Rattle.ver_print.specs.Cells.{cell_text}
use Rattle.ver_print.specs.Ports.{ports_text, wires_text}
use Rattle.ver_print.specs.Values.{drives_text}
use Rattle.ver_print.specs.Verilog.{verilog_text}
use Rattle.ver_print.specs.Words.{escaped}

-- the text of a netlist, part by part, in the order in which it is put
pub text_parts : (net : Net) → verilog_text (netlist_of net) ≡
    codes "module " ++ escaped (text_of net.names net.name) ++ codes "(\n" ++ ports_text (netlist_of net) ++ codes ");\n"
    ++ wires_text (netlist_of net) ++ flat_map (λ c. cell_text (cell_of net.names c)) net.cells.items ++ drives_text (netlist_of net) ++ codes "endmodule\n"
text_parts net =
    let n = netlist_of net in
    ap (λ (cells : Text).
    codes "module " ++ escaped n.name ++ codes "(\n" ++ ports_text n ++ codes ");\n" ++ wires_text n ++ cells ++ drives_text n ++ codes "endmodule\n")
    (flat_map-map cell_text (cell_of net.names) net.cells.items)
