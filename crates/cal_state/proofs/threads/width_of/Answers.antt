use Rattle.std.proofs.Common.{◌+◌, ◌-◌, arith}
use Rattle.cal_state.proofs.WidthLemmas.{power_small, power_some, seeks_first, seeks_last, seeks_next}
use Rattle.cal_state.proofs.threads.width_of.Goals as goal

pub loop-power-init : goal.loop-power-init
loop-power-init c = seeks_first c.args.last

pub overflow_add-width : goal.overflow_add-width
overflow_add-width c = let few = c.loop-power.invariant.few in omega (arith, few)

pub loop-power-smaller : goal.loop-power-smaller
loop-power-smaller c =
    let some = power_some c.args.last c.loop-power.width c.loop-power.power c.loop-power.invariant in
    omega (arith, some, c.loop-power-test.true)

pub loop-power-preserved : goal.loop-power-preserved
loop-power-preserved c = seeks_next c.args.last c.loop-power.width c.loop-power.power (omega (arith, c.ranges.last)) c.loop-power-test.true c.loop-power.invariant

pub returns : goal.returns
returns c = seeks_last c.args.last c.loop-power.width c.loop-power.power c.loop-power-test.false c.loop-power.invariant
