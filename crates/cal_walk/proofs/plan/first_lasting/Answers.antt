use Rattle.std.proofs.Common.{length, sym, ap, ◌∙◌, arith}
use Rattle.std.proofs.lemmas.Option.{slice_get_within, same_Some}
use Rattle.cal_walk.specs.Left.{is_over}
use Rattle.cal_walk.specs.Trees.{plan_tree}
use Rattle.cal_walk.proofs.OverLemmas.{at_index, over_more, over_front}
use Rattle.cal_walk.proofs.plan.first_lasting.Goals as goal

pub returns-then-not-is_over-clause-over : goal.returns-then-not-is_over-clause-over
returns-then-not-is_over-clause-over c = λ f h. over_front (plan_tree f h) c.args.plans.now c.loop-number.number (c.loop-number.invariant f h)

pub returns-then-not-is_over-clause-lasts : goal.returns-then-not-is_over-clause-lasts
returns-then-not-is_over-clause-lasts c = λ f h plan there.
    let at = at_index c.args.plans.now c.loop-number.number c.index-plans-number.result c.loop-number-test.true c.index-plans-number.is in
    let same = same_Some plan c.index-plans-number.result (sym there ∙ at) in
    ap (λ p. is_over (plan_tree f h p)) same ∙ sym (c.is_over.ensures f h) ∙ c.if-not-is_over.true

pub loop-number-preserved : goal.loop-number-preserved
loop-number-preserved c = λ f h.
    let at = at_index c.args.plans.now c.loop-number.number c.index-plans-number.result c.loop-number-test.true c.index-plans-number.is in
    over_more (plan_tree f h) c.args.plans.now c.loop-number.number c.index-plans-number.result at (c.loop-number.invariant f h) (sym (c.is_over.ensures f h) ∙ c.if-not-is_over.false)

pub returns-clause-over : goal.returns-clause-over
returns-clause-over c = λ f h. over_front (plan_tree f h) c.args.plans.now (length c.args.plans.now) (λ k x less at. c.loop-number.invariant f h k x (omega (arith, less, c.loop-number-test.false)) at)

pub returns-clause-lasts : goal.returns-clause-lasts
returns-clause-lasts c = λ f h plan there. let within = slice_get_within c.args.plans.now (length c.args.plans.now) plan there in absurd (omega (arith, within))
