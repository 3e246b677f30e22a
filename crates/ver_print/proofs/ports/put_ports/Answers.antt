use Rattle.std.proofs.Common.{List, ◌++◌, codes, flat_map, ap, ◌∙◌}
use Rattle.net_core.specs.Netlist.{pin_of}
use Rattle.net_core.specs.declared.net.NetPort.{NetPort}
use Rattle.ver_print.specs.Ports.{port_text}
use Rattle.ver_print.proofs.PortLemmas.{ports_put}
use Rattle.ver_print.proofs.PutLemmas.{OnOk-is}
use Rattle.ver_print.proofs.ports.put_ports.Goals as goal

pub returns : goal.returns
returns c =
    let names = c.args.net.now.names in
    let ins = c.in_ok-put_port_list.ensures ∙ ap (λ (xs : List NetPort). c.put.new.out.items ++ flat_map (λ p. port_text (codes "input") (pin_of names p)) xs) c.deref.ensures.value in
    let outs = c.in_ok-put_port_list-2.ensures ∙ ap (λ (xs : List NetPort). c.put_port_list.new.out.items ++ flat_map (λ p. port_text (codes "output") (pin_of names p)) xs) c.deref-2.ensures.value in
    OnOk-is c.put-2.result c.put-2.new.out.items _ _ c.put-2.ensures
    (ports_put c.args.net.now c.args.out.now.items c.put.new.out.items c.put_port_list.new.out.items c.put_port_list-2.new.out.items c.in_ok-put.ensures ins outs)
