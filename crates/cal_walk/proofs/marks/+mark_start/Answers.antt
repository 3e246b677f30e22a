use Rattle.std.proofs.Common.{◌≡◌, ℕ, ◌+◌, ◌<◌, length, take, IfSome, refl, sym, subst, inl, inr, arith, rules}
use Rattle.std.proofs.lemmas.List.{take_all}
use Rattle.std.proofs.lemmas.List.Elements.{All-same}
use Rattle.cal_ast.specs.Plan.{AtOnce, NoPlans}
use Rattle.cal_walk.specs.Marking.{HaveOwnMarks}
use Rattle.cal_walk.specs.Trees.{plan_tree, IsWithin}
use Rattle.cal_walk.specs.declared.plan.Plan.{the_lemmas}
use Rattle.cal_walk.proofs.FirstLemmas.{all_over}
use Rattle.cal_walk.proofs.MarkLemmas.{none_wanted, same_sizes, sizes_both, sizes_alike, apart_after, wanted_next, wanted_whole, first_wanted, no_first_wanted}
use Rattle.cal_walk.proofs.MarkTreeLemmas.{enabled_wanted, chooses_wanted, repeats_wanted, in_turn_wanted, at_once_wanted}
use Rattle.cal_walk.proofs.OverLemmas.{at_index, one_more}
use Rattle.cal_walk.proofs.TreeLemmas.{list_within}
use Rattle.cal_walk.proofs.WithinLemmas.{enables_within, chooses_within, repeats_within}
use Rattle.cal_walk.proofs.marks.+mark_start.Goals as goal

-- ---- an enabled actor

pub mark_start-mark_enabled-requires : goal.mark_start-mark_enabled-requires
mark_start-mark_enabled-requires t c = enables_within (length c.args.marks.now.enabled.items) c.requires.within.0 c.args.plan.now c.in-Enables.actor c.in-Enables.is c.requires.within.1

pub mark_start-returns-in-Enables-clause-marks : goal.mark_start-returns-in-Enables-clause-marks
mark_start-returns-in-Enables-clause-marks t c = λ f h apart.
    enabled_wanted f h c.args.marks.now c.mark_enabled.new.marks c.args.plan.now c.in-Enables.actor c.in-Enables.is (c.mark_enabled.ensures.enabled f apart) c.mark_enabled.ensures.tested

-- ---- plans in turn, and at once

pub mark_start-mark_first-requires : goal.mark_start-mark_first-requires
mark_start-mark_first-requires t c =
    let actors = length c.args.marks.now.enabled.items in
    let (conditions, within) = c.requires.within in
    let P = IsWithin actors conditions in (
      search (rules, the_lemmas),
      (c.requires.sized, (conditions, All-same P c.deref.result.now c.in-InTurn.plans.items c.deref.ensures.value (list_within actors conditions c.args.plan.now c.in-InTurn.plans (inl c.in-InTurn.is) within))),
    )

pub mark_start-returns-in-InTurn-clause-marks : goal.mark_start-returns-in-InTurn-clause-marks
mark_start-returns-in-InTurn-clause-marks t c = λ f h apart.
    in_turn_wanted f h c.args.marks.now c.mark_first.new.marks c.args.plan.now c.in-InTurn.plans c.deref.result.now c.in-InTurn.is c.deref.ensures.value (c.mark_first.ensures.marks f h apart)

pub mark_start-mark_each_start-requires : goal.mark_start-mark_each_start-requires
mark_start-mark_each_start-requires t c =
    let actors = length c.args.marks.now.enabled.items in
    let (conditions, within) = c.requires.within in
    let P = IsWithin actors conditions in (
      search (rules, the_lemmas),
      (c.requires.sized, (conditions, All-same P c.deref-in-AtOnce.result.now c.in-AtOnce.plans.items c.deref-in-AtOnce.ensures.value (list_within actors conditions c.args.plan.now c.in-AtOnce.plans (inr c.in-AtOnce.is) within))),
    )

pub mark_start-returns-in-AtOnce-clause-marks : goal.mark_start-returns-in-AtOnce-clause-marks
mark_start-returns-in-AtOnce-clause-marks t c = λ f h apart.
    at_once_wanted f h c.args.marks.now c.mark_each_start.new.marks c.args.plan.now c.in-AtOnce.plans c.deref-in-AtOnce.result.now c.in-AtOnce.is c.deref-in-AtOnce.ensures.value (c.mark_each_start.ensures.marks f h apart)

-- ---- the test of a condition

pub mark_start-mark_tested-requires : goal.mark_start-mark_tested-requires
mark_start-mark_tested-requires t c =
    subst (λ (n : ℕ). IfSome c.in-Chooses.by (λ actor. actor < n)) (sym c.requires.sized)
    (chooses_within (length c.args.marks.now.enabled.items) c.requires.within.0 c.args.plan.now _ c.in-Chooses.by _ _ c.in-Chooses.is c.requires.within.1).1

pub mark_start-returns-in-Chooses-clause-marks : goal.mark_start-returns-in-Chooses-clause-marks
mark_start-returns-in-Chooses-clause-marks t c = λ f h apart.
    chooses_wanted f h c.args.marks.now c.mark_tested.new.marks c.args.plan.now _ c.in-Chooses.by _ _ c.in-Chooses.is (c.mark_tested.ensures.tested f (subst (HaveOwnMarks f) (sym c.requires.sized) apart)) c.mark_tested.ensures.enabled

pub mark_start-mark_tested-requires-in-Repeats : goal.mark_start-mark_tested-requires-in-Repeats
mark_start-mark_tested-requires-in-Repeats t c =
    subst (λ (n : ℕ). IfSome c.in-Repeats.by (λ actor. actor < n)) (sym c.requires.sized)
    (repeats_within (length c.args.marks.now.enabled.items) c.requires.within.0 c.args.plan.now _ c.in-Repeats.by _ c.in-Repeats.is c.requires.within.1).1

pub mark_start-returns-in-Repeats-clause-marks : goal.mark_start-returns-in-Repeats-clause-marks
mark_start-returns-in-Repeats-clause-marks t c = λ f h apart.
    repeats_wanted f h c.args.marks.now c.mark_tested-in-Repeats.new.marks c.args.plan.now _ c.in-Repeats.by _ c.in-Repeats.is (c.mark_tested-in-Repeats.ensures.tested f (subst (HaveOwnMarks f) (sym c.requires.sized) apart)) c.mark_tested-in-Repeats.ensures.enabled

-- ---- the first that takes a row

pub mark_first-mark_start-requires : goal.mark_first-mark_start-requires
mark_first-mark_start-requires t c =
    let number = c.first_lasting-number.result in
    let first = c.index-plans-number.result in
    let (conditions, within) = c.requires.within in
    let P = IsWithin (length c.args.marks.now.enabled.items) conditions in
    (search (rules, the_lemmas), (c.requires.sized, (conditions, subst P (sym c.index-plans-number.is) (within number first c.if-number-plans.true))))

pub mark_first-returns-then-number-plans-clause-marks : goal.mark_first-returns-then-number-plans-clause-marks
mark_first-returns-then-number-plans-clause-marks t c = λ f h apart.
    let plans = c.args.plans.now in
    let number = c.first_lasting-number.result in
    let first = c.index-plans-number.result in
    let at = at_index plans number first c.if-number-plans.true c.index-plans-number.is in
    first_wanted (plan_tree f h) f plans c.args.marks.now c.mark_start.new.marks number first (c.first_lasting-number.ensures.over f h) at (c.first_lasting-number.ensures.lasts f h first at)
    (c.mark_start.ensures.marks f h apart)

pub mark_first-returns-else-number-plans-clause-marks : goal.mark_first-returns-else-number-plans-clause-marks
mark_first-returns-else-number-plans-clause-marks t c = λ f h apart.
    let plans = c.args.plans.now in
    let number = c.first_lasting-number.result in
    let all : number ≡ length plans = omega (arith, c.first_lasting-number.ensures.within, c.if-number-plans.false) in
    no_first_wanted (plan_tree f h) f plans c.args.marks.now c.args.marks.now (all_over f h plans number (c.first_lasting-number.ensures.over f h) all) refl

-- ---- each of plans at once

pub mark_each_start-loop-plan-init : goal.mark_each_start-loop-plan-init
mark_each_start-loop-plan-init t c = record {
  sizes = same_sizes c.args.marks.now;
  wanted = λ f h apart. none_wanted f (AtOnce NoPlans) c.args.marks.now (λ actor. refl) (λ actor. refl);
}

pub mark_each_start-mark_start-requires : goal.mark_each_start-mark_start-requires
mark_each_start-mark_start-requires t c =
    let old = c.args.marks.now in
    let now = c.loop-plan.marks in
    let (conditions, within) = c.requires.within in
    let here = subst (IsWithin (length old.enabled.items) conditions) (sym c.plan-item.is) (within c.loop-plan.plan-index c.plan-item.result c.loop-plan-test.true) in (
      search (rules, the_lemmas),
      (
        sizes_alike old now c.loop-plan.invariant.sizes c.requires.sized,
        (conditions, subst (λ (n : ℕ). IsWithin n conditions c.plan-item.result) (sym c.loop-plan.invariant.sizes.enabled_sized) here),
      ),
    )

pub mark_each_start-loop-plan-preserved : goal.mark_each_start-loop-plan-preserved
mark_each_start-loop-plan-preserved t c =
    let plans = c.args.plans.now in
    let i = c.loop-plan.plan-index in
    let item = c.plan-item.result in
    let old = c.args.marks.now in
    let mid = c.loop-plan.marks in
    let new = c.mark_start.new.marks in
    let more = one_more plans i item (at_index plans i item c.loop-plan-test.true c.plan-item.is) in
    let sizes = c.loop-plan.invariant.sizes in
    record {
      sizes = sizes_both old mid new sizes c.mark_start.ensures.sized;
      wanted = λ f h apart.
          wanted_next (plan_tree f h) f (take i plans) (take (i + 1) plans) item old mid new more sizes (c.loop-plan.invariant.wanted f h apart) (c.mark_start.ensures.marks f h (apart_after f old mid sizes apart));
    }

pub mark_each_start-returns-clause-marks : goal.mark_each_start-returns-clause-marks
mark_each_start-returns-clause-marks t c = λ f h apart.
    let plans = c.args.plans.now in
    let i = c.loop-plan.plan-index in
    wanted_whole (plan_tree f h) f (take i plans) plans c.args.marks.now c.loop-plan.marks (take_all i plans (omega (arith, c.loop-plan-test.false))) (c.loop-plan.invariant.wanted f h apart)
