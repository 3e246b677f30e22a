use Rattle.std.proofs.Common.{arith}
use Rattle.cal_sched.proofs.DoneLemmas.{reads_are}
use Rattle.cal_sched.proofs.walker.see_conditions.Goals as goal

pub returns : goal.returns
returns c =
    let conditions = c.args.conditions.now in
    reads_are c.args.sim.now.values conditions c.loop-number.reads (omega (arith, c.requires.sized)) (λ k within. c.loop-number.invariant k (omega (arith, within, c.loop-number-test.false)))
