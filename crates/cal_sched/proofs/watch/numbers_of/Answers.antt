use Rattle.cal_sched.proofs.LookLemmas.{numbers_more, within_more}
use Rattle.cal_sched.proofs.watch.numbers_of.Goals as goal

pub loop-port-preserved : goal.loop-port-preserved
loop-port-preserved c =
    let names = c.args.names.now in
    let ports = c.args.ports.now in
    let conditions = c.args.conditions.now in
    let i = c.loop-port.port-index in
    let old = c.loop-port.numbers.items in
    let new = c.push.new.self.items in
    let number = c.in_ok-number_at.field-0 in
    record {
      numbers = numbers_more names ports conditions i _ old new number c.loop-port-test.true c.in_ok-push.ensures.items c.in_ok-number_at.ensures c.loop-port.invariant.numbers;
      within = within_more ports _ old new number c.in_ok-push.ensures.items c.in_ok-number_at.ensures c.loop-port.invariant.within;
    }
