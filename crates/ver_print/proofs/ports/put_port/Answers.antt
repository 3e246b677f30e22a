use Rattle.hw_names.proofs.NameLemmas.{text_of-slice_get}
use Rattle.net_core.specs.Netlist.{pin_of}
use Rattle.ver_print.proofs.PortLemmas.{port_put}
use Rattle.ver_print.proofs.PutLemmas.{OnOk-is}
use Rattle.ver_print.proofs.ports.put_port.Goals as goal

pub returns : goal.returns
returns c =
    let names = c.args.names.now in
    let named = text_of-slice_get names c.args.port.name c.text.result.now c.text.ensures in
    OnOk-is c.put_escaped.result c.put_escaped.new.out.items _ _ c.put_escaped.ensures
    (port_put c.args.direction.now (pin_of names c.args.port) c.text.result.now c.args.out.now.items c.put.new.out.items c.put-2.new.out.items c.put-3.new.out.items c.put_range.new.out.items c.put-4.new.out.items
    named c.in_ok-put.ensures c.in_ok-put-2.ensures c.in_ok-put-3.ensures c.in_ok-put_range.ensures c.in_ok-put-4.ensures)
