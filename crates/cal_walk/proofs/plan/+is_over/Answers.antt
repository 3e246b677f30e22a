use Rattle.std.proofs.Common.{sym, ◌∙◌, inl, inr, arith}
use Rattle.std.proofs.lemmas.Option.{slice_get_within}
use Rattle.cal_walk.specs.Trees.{plan_tree}
use Rattle.cal_walk.proofs.OverLemmas.{at_index, over_more}
use Rattle.cal_walk.proofs.TreeLemmas.{over_list, one_lasts, none_lasts}
use Rattle.cal_walk.proofs.plan.+is_over.Goals as goal

pub is_over-returns-in-InTurn : goal.is_over-returns-in-InTurn
is_over-returns-in-InTurn t c = λ f h.
    c.are_over.ensures f h ∙ over_list f h c.args.plan.now c.in-InTurn.plans c.deref.result.now (inl c.in-InTurn.is) c.deref.ensures.value

pub is_over-returns-in-AtOnce : goal.is_over-returns-in-AtOnce
is_over-returns-in-AtOnce t c = λ f h.
    c.are_over-in-AtOnce.ensures f h ∙ over_list f h c.args.plan.now c.in-AtOnce.plans c.deref-in-AtOnce.result.now (inr c.in-AtOnce.is) c.deref-in-AtOnce.ensures.value

pub are_over-returns-then-not-is_over : goal.are_over-returns-then-not-is_over
are_over-returns-then-not-is_over t c = λ f h.
    let at = at_index c.args.plans.now c.loop-plan.plan-index c.plan-item.result c.loop-plan-test.true c.plan-item.is in
    sym (one_lasts (plan_tree f h) c.args.plans.now c.loop-plan.plan-index c.plan-item.result at (sym (c.is_over.ensures f h) ∙ c.if-not-is_over.true))

pub are_over-loop-plan-preserved : goal.are_over-loop-plan-preserved
are_over-loop-plan-preserved t c = λ f h.
    let at = at_index c.args.plans.now c.loop-plan.plan-index c.plan-item.result c.loop-plan-test.true c.plan-item.is in
    over_more (plan_tree f h) c.args.plans.now c.loop-plan.plan-index c.plan-item.result at (c.loop-plan.invariant f h) (sym (c.is_over.ensures f h) ∙ c.if-not-is_over.false)

pub are_over-returns : goal.are_over-returns
are_over-returns t c = λ f h.
    let plans = c.args.plans.now in
    sym (none_lasts (plan_tree f h) plans (λ k p at. let within = slice_get_within plans k p at in c.loop-plan.invariant f h k p (omega (arith, within, c.loop-plan-test.false)) at))
