use Rattle.std.proofs.Common.{sym, ◌∙◌, arith}
use Rattle.std.proofs.lemmas.Option.{slice_get_within}
use Rattle.cal_walk.specs.Trees.{left_tree}
use Rattle.cal_walk.proofs.OverLemmas.{at_index, over_more}
use Rattle.cal_walk.proofs.TreeLemmas.{left_over_list, one_lasts, none_lasts}
use Rattle.cal_walk.proofs.left.+left_over.Goals as goal

pub left_over-returns-in-AtOnce : goal.left_over-returns-in-AtOnce
left_over-returns-in-AtOnce t c = λ f h.
    c.all_over.ensures f h ∙ left_over_list f h c.args.left.now c.in-AtOnce.all c.deref-in-AtOnce.result.now c.in-AtOnce.is c.deref-in-AtOnce.ensures.value

pub all_over-returns-then-not-left_over : goal.all_over-returns-then-not-left_over
all_over-returns-then-not-left_over t c = λ f h.
    let at = at_index c.args.all.now c.loop-left.left-index c.left-item.result c.loop-left-test.true c.left-item.is in
    sym (one_lasts (left_tree f h) c.args.all.now c.loop-left.left-index c.left-item.result at (sym (c.left_over.ensures f h) ∙ c.if-not-left_over.true))

pub all_over-loop-left-preserved : goal.all_over-loop-left-preserved
all_over-loop-left-preserved t c = λ f h.
    let at = at_index c.args.all.now c.loop-left.left-index c.left-item.result c.loop-left-test.true c.left-item.is in
    over_more (left_tree f h) c.args.all.now c.loop-left.left-index c.left-item.result at (c.loop-left.invariant f h) (sym (c.left_over.ensures f h) ∙ c.if-not-left_over.false)

pub all_over-returns : goal.all_over-returns
all_over-returns t c = λ f h.
    let all = c.args.all.now in
    sym (none_lasts (left_tree f h) all (λ k l at. let within = slice_get_within all k l at in c.loop-left.invariant f h k l (omega (arith, within, c.loop-left-test.false)) at))
