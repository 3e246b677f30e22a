use Rattle.std.proofs.Common.{◌+◌, ◌∙◌}
use Rattle.cal_lower.proofs.NextLemmas.{at_index}
use Rattle.cal_state.proofs.EncodingLoopLemmas.{groups_end, groups_next}
use Rattle.cal_state.proofs.component.Sets.push_groups.Goals as goal

pub loop-group-preserved : goal.loop-group-preserved
loop-group-preserved c = λ names source plan left wires states shows.
    let gs = c.args.groups.now in
    let i = c.loop-group.group-index in
    let g = c.group-item.result in
    groups_next source plan names gs left wires states i g c.loop-group.self c.stay.new.self c.stay_all.new.self c.len.result (at_index gs i g c.loop-group-test.true c.group-item.is)
    (c.len.ensures ∙ g.dones.ok.0) (c.loop-group.invariant names source plan left wires states shows)
    (λ set l w s h. c.in_ok-stay.ensures names set l w s h) (λ sets l w s n h. c.in_ok-stay_all.ensures names sets l w s n h)

pub returns : goal.returns
returns c = λ names source plan left wires states shows.
    groups_end source plan names c.args.groups.now left wires states c.loop-group.group-index c.loop-group.self c.loop-group-test.false (c.loop-group.invariant names source plan left wires states shows)
