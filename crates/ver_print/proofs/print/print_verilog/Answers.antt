use Rattle.std.proofs.Common.{sym}
use Rattle.hw_names.proofs.NameLemmas.{text_of-slice_get}
use Rattle.ver_print.proofs.TextLemmas.{text_parts}
use Rattle.ver_print.proofs.print.print_verilog.Goals as goal

pub returns : goal.returns
returns c =
    let net = c.args.net.now in
    let named = text_of-slice_get net.names net.name c.text.result.now c.text.ensures in
    rw (c.in_ok-put-4.ensures, c.in_ok-put_drives.ensures, c.in_ok-put_cells.ensures, c.in_ok-put_wires.ensures, c.in_ok-put-3.ensures, c.in_ok-put_ports.ensures, c.in_ok-put-2.ensures, c.in_ok-put_escaped.ensures, c.in_ok-put.ensures, c.new-out.ensures.items, c.deref.ensures.value, sym named)
    (sym (text_parts net))
