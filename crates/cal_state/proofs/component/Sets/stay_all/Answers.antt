use Rattle.std.proofs.Common.{◌<◌, ◌≤◌, length, arith}
use Rattle.cal_state.proofs.EncodingLoopLemmas.{stays_end, stays_next}
use Rattle.cal_state.proofs.component.Sets.stay_all.Goals as goal

pub loop-number-preserved : goal.loop-number-preserved
loop-number-preserved c = λ names sets left wires states count shows.
    let k = c.loop-number.number in
    let within : k < length sets = omega (arith, count, c.loop-number-test.true) in
    stays_next names sets left wires states k c.loop-number.self c.stay.new.self within (c.loop-number.invariant names sets left wires states count shows)
    (λ set l w s h. c.in_ok-stay.ensures names set l w s h)

pub returns : goal.returns
returns c = λ names sets left wires states count shows.
    let k = c.loop-number.number in
    let past : length sets ≤ k = omega (arith, count, c.loop-number-test.false) in
    stays_end names sets left wires states k c.loop-number.self past (c.loop-number.invariant names sets left wires states count shows)
