use Rattle.ver_print.proofs.PortLemmas.{wire_put}
use Rattle.ver_print.proofs.PutLemmas.{OnOk-is}
use Rattle.ver_print.proofs.ports.put_wire.Goals as goal

pub returns : goal.returns
returns c = λ p named wide.
    OnOk-is c.put-3.result c.put-3.new.out.items _ _ c.put-3.ensures
    (wire_put p c.args.name.now c.args.width c.args.out.now.items c.put.new.out.items c.put_range.new.out.items c.put-2.new.out.items c.put_escaped.new.out.items
    named wide c.in_ok-put.ensures c.in_ok-put_range.ensures c.in_ok-put-2.ensures c.in_ok-put_escaped.ensures)
