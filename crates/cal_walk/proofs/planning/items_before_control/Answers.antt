use Rattle.std.proofs.Common.{length, ◌+◌, arith}
use Rattle.cal_walk.proofs.CountLemmas.{counted_more, before_control}
use Rattle.cal_walk.proofs.OverLemmas.{at_index, one_more}
use Rattle.cal_walk.proofs.planning.items_before_control.Goals as goal

pub loop-group-init : goal.loop-group-init
loop-group-init c = λ names.
    let comp = c.args.comp.now in
    omega (arith, c.in_ok-cells.ensures, c.in_ok-items.ensures, c.len.ensures, c.len-2.ensures, comp.cells.ok.0, comp.sets.ok.0)

pub loop-group-preserved : goal.loop-group-preserved
loop-group-preserved c = λ names.
    let comp = c.args.comp.now in
    let groups = c.deref-group-items.result.now in
    let i = c.loop-group.group-index in
    let group = c.group-item.result in
    let more = one_more groups i group (at_index groups i group c.loop-group-test.true c.group-item.is) in
    counted_more names groups i group c.loop-group.items (1 + length comp.cells.items + length comp.sets.items) c.in_ok-items-2.items more (c.loop-group.invariant names) c.in_ok-items-2.ensures

pub returns : goal.returns
returns c = λ names.
    before_control names c.args.comp.now c.loop-group.items c.loop-group.group-index c.deref-group-items.result.now c.deref-group-items.ensures.value c.loop-group-test.false (c.loop-group.invariant names)
