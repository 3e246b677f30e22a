use Rattle.net_row.proofs.ProgramLemmas.{slots_more}
use Rattle.net_row.proofs.compile.port_slots.Goals as goal

pub loop-port-preserved : goal.loop-port-preserved
loop-port-preserved c = slots_more c.args.ports.now.slots.items c.loop-port.port c.in_ok-get.field-0 c.loop-port.slots.items c.push.new.self.items c.in_ok-get.ensures c.loop-port.invariant c.in_ok-push.ensures.items
