use Rattle.std.proofs.Common.{◌≡◌, ◌+◌, length, arith}
use Rattle.cal_group.proofs.CountLemmas.{counted_all, counted_more}
use Rattle.cal_group.proofs.BlockLemmas.{at_index}
use Rattle.cal_group.proofs.expand.count_group_items.Goals as goal

pub loop-group-preserved : goal.loop-group-preserved
loop-group-preserved c = λ names.
    let groups = c.args.groups.now in
    let i = c.loop-group.group-index in
    let group = c.group-item.result in
    let next : c.in_ok-count.count ≡ 1 + length group.sets.items + length group.dones.items + c.loop-group.count =
    omega (arith, c.in_ok-count.ensures, c.len.ensures, c.len-in-loop-group.ensures, group.sets.ok.0, group.dones.ok.0) in
    counted_more names groups i group c.loop-group.count c.in_ok-count.count (at_index groups i group c.loop-group-test.true c.group-item.is) (c.loop-group.invariant names) next

pub returns : goal.returns
returns c = λ names. counted_all names c.args.groups.now c.loop-group.group-index c.loop-group.count c.loop-group-test.false (c.loop-group.invariant names)
