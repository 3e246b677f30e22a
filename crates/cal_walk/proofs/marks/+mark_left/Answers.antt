use Rattle.std.proofs.Common.{ℕ, ◌+◌, [], ◌∷◌, length, take, refl, sym, ap, subst, ◌∙◌, arith, rules}
use Rattle.std.proofs.lemmas.List.{take_all}
use Rattle.std.proofs.lemmas.List.Elements.{All-same}
use Rattle.cal_ast.specs.Plan.{AtOnce, NoPlans}
use Rattle.cal_walk.specs.Left.{is_over}
use Rattle.cal_walk.specs.Trees.{plan_tree, left_tree, slice_trees, plans_of, LeftIsWithin}
use Rattle.cal_walk.specs.declared.left.Left.{Left, the_lemmas}
use Rattle.cal_walk.proofs.MarkLemmas.{none_wanted, same_sizes, sizes_both, sizes_alike, apart_after, wanted_next, wanted_whole}
use Rattle.cal_walk.proofs.MarkTreeLemmas.{nothing_wanted, whole_wanted, read_wanted, others_wanted, one_wanted, last_wanted, all_wanted}
use Rattle.cal_walk.proofs.OverLemmas.{at_index, one_more}
use Rattle.cal_walk.proofs.TreeLemmas.{all_within}
use Rattle.cal_walk.proofs.WithinLemmas.{whole_within, in_turn_within, again_within}
use Rattle.cal_walk.proofs.marks.+mark_left.Goals as goal

pub mark_left-returns-in-Nothing-clause-marks : goal.mark_left-returns-in-Nothing-clause-marks
mark_left-returns-in-Nothing-clause-marks t c = λ f h apart. nothing_wanted f h c.args.marks.now c.args.left.now c.in-Nothing.is

-- ---- a plan that starts

pub mark_left-mark_start-requires : goal.mark_left-mark_start-requires
mark_left-mark_start-requires t c =
    let (conditions, within) = c.requires.within in
    record { sized = c.requires.sized; within = (conditions, whole_within (length c.args.marks.now.enabled.items) conditions c.args.left.now c.in-Whole.plan c.in-Whole.is within) }

pub mark_left-returns-in-Whole-clause-marks : goal.mark_left-returns-in-Whole-clause-marks
mark_left-returns-in-Whole-clause-marks t c = λ f h apart.
    whole_wanted f h c.args.marks.now c.mark_start.new.marks c.args.left.now c.in-Whole.plan c.in-Whole.is (c.mark_start.ensures.marks f h apart)

-- ---- what is left of a plan, and the plans after it

pub mark_left-mark_first-requires : goal.mark_left-mark_first-requires
mark_left-mark_first-requires t c =
    let (conditions, within) = c.requires.within in
    record { sized = c.requires.sized; within = (conditions, (in_turn_within (length c.args.marks.now.enabled.items) conditions c.args.left.now c.in-InTurn.first c.in-InTurn.others c.in-InTurn.is within).1) }

pub mark_left-returns-then-left_over-clause-marks : goal.mark_left-returns-then-left_over-clause-marks
mark_left-returns-then-left_over-clause-marks t c = λ f h apart.
    let first = c.in-InTurn.first.value in
    let over = sym (ap (λ (l : Left). is_over (left_tree f h l)) c.deref.ensures) ∙ sym (c.left_over.ensures f h) ∙ c.if-left_over.true in
    others_wanted f (left_tree f h c.args.left.now) (left_tree f h first) (slice_trees f h c.in-InTurn.others.now) (ap (left_tree f h) c.in-InTurn.is) c.args.marks.now c.mark_first.new.marks over
    (c.mark_first.ensures.marks f h apart)

pub mark_left-mark_left-requires : goal.mark_left-mark_left-requires
mark_left-mark_left-requires t c =
    let actors = length c.args.marks.now.enabled.items in
    let (conditions, within) = c.requires.within in (
      search (rules, the_lemmas),
      (
        c.requires.sized,
        (conditions, subst (LeftIsWithin actors conditions) (sym c.deref-else-left_over.ensures) (in_turn_within actors conditions c.args.left.now c.in-InTurn.first c.in-InTurn.others c.in-InTurn.is within).0),
      ),
    )

pub mark_left-returns-else-left_over-clause-marks : goal.mark_left-returns-else-left_over-clause-marks
mark_left-returns-else-left_over-clause-marks t c = λ f h apart.
    let first = c.in-InTurn.first.value in
    let old = c.args.marks.now in
    let new = c.mark_left.new.marks in
    let lasts = sym (ap (λ (l : Left). is_over (left_tree f h l)) c.deref.ensures) ∙ sym (c.left_over.ensures f h) ∙ c.if-left_over.false in
    one_wanted f (left_tree f h c.args.left.now) (left_tree f h first) (slice_trees f h c.in-InTurn.others.now) (ap (left_tree f h) c.in-InTurn.is) old new lasts
    (read_wanted f h old new first c.deref-else-left_over.result.now c.deref-else-left_over.ensures (c.mark_left.ensures.marks f h apart))

-- ---- what is left at once

pub mark_left-mark_all-requires : goal.mark_left-mark_all-requires
mark_left-mark_all-requires t c =
    let actors = length c.args.marks.now.enabled.items in
    let (conditions, within) = c.requires.within in (
      search (rules, the_lemmas),
      (
        c.requires.sized,
        (conditions, All-same (LeftIsWithin actors conditions) c.deref-in-AtOnce.result.now c.in-AtOnce.all.items c.deref-in-AtOnce.ensures.value (all_within actors conditions c.args.left.now c.in-AtOnce.all c.in-AtOnce.is within)),
      ),
    )

pub mark_left-returns-in-AtOnce-clause-marks : goal.mark_left-returns-in-AtOnce-clause-marks
mark_left-returns-in-AtOnce-clause-marks t c = λ f h apart.
    all_wanted f h c.args.marks.now c.mark_all.new.marks c.args.left.now c.in-AtOnce.all c.deref-in-AtOnce.result.now c.in-AtOnce.is c.deref-in-AtOnce.ensures.value (c.mark_all.ensures.marks f h apart)

-- ---- what is left of a turn, and the loop

pub mark_left-mark_start-requires-then-left_over-2 : goal.mark_left-mark_start-requires-then-left_over-2
mark_left-mark_start-requires-then-left_over-2 t c =
    let (conditions, within) = c.requires.within in
    record { sized = c.requires.sized; within = (conditions, (again_within (length c.args.marks.now.enabled.items) conditions c.args.left.now c.in-Again.turn c.in-Again.repeats c.in-Again.is within).1) }

pub mark_left-returns-then-left_over-2-clause-marks : goal.mark_left-returns-then-left_over-2-clause-marks
mark_left-returns-then-left_over-2-clause-marks t c = λ f h apart.
    let turn = c.in-Again.turn.value in
    let over = sym (ap (λ (l : Left). is_over (left_tree f h l)) c.deref-in-Again.ensures) ∙ sym (c.left_over-in-Again.ensures f h) ∙ c.if-left_over-2.true in
    last_wanted f (left_tree f h c.args.left.now) (left_tree f h turn) (plan_tree f h c.in-Again.repeats.now) (ap (left_tree f h) c.in-Again.is) c.args.marks.now c.mark_start-then-left_over-2.new.marks over
    (c.mark_start-then-left_over-2.ensures.marks f h apart)

pub mark_left-mark_left-requires-else-left_over-2 : goal.mark_left-mark_left-requires-else-left_over-2
mark_left-mark_left-requires-else-left_over-2 t c =
    let actors = length c.args.marks.now.enabled.items in
    let (conditions, within) = c.requires.within in (
      search (rules, the_lemmas),
      (
        c.requires.sized,
        (conditions, subst (LeftIsWithin actors conditions) (sym c.deref-else-left_over-2.ensures) (again_within actors conditions c.args.left.now c.in-Again.turn c.in-Again.repeats c.in-Again.is within).0),
      ),
    )

pub mark_left-returns-else-left_over-2-clause-marks : goal.mark_left-returns-else-left_over-2-clause-marks
mark_left-returns-else-left_over-2-clause-marks t c = λ f h apart.
    let turn = c.in-Again.turn.value in
    let old = c.args.marks.now in
    let new = c.mark_left-else-left_over-2.new.marks in
    let lasts = sym (ap (λ (l : Left). is_over (left_tree f h l)) c.deref-in-Again.ensures) ∙ sym (c.left_over-in-Again.ensures f h) ∙ c.if-left_over-2.false in
    one_wanted f (left_tree f h c.args.left.now) (left_tree f h turn) (plans_of (plan_tree f h c.in-Again.repeats.now ∷ [])) (ap (left_tree f h) c.in-Again.is) old new lasts
    (read_wanted f h old new turn c.deref-else-left_over-2.result.now c.deref-else-left_over-2.ensures (c.mark_left-else-left_over-2.ensures.marks f h apart))

-- ---- each of what is left

pub mark_all-loop-left-init : goal.mark_all-loop-left-init
mark_all-loop-left-init t c = record {
  sizes = same_sizes c.args.marks.now;
  wanted = λ f h apart. none_wanted f (AtOnce NoPlans) c.args.marks.now (λ actor. refl) (λ actor. refl);
}

pub mark_all-mark_left-requires : goal.mark_all-mark_left-requires
mark_all-mark_left-requires t c =
    let old = c.args.marks.now in
    let now = c.loop-left.marks in
    let (conditions, within) = c.requires.within in
    let here = subst (LeftIsWithin (length old.enabled.items) conditions) (sym c.left-item.is) (within c.loop-left.left-index c.left-item.result c.loop-left-test.true) in (
      search (rules, the_lemmas),
      (
        sizes_alike old now c.loop-left.invariant.sizes c.requires.sized,
        (conditions, subst (λ (n : ℕ). LeftIsWithin n conditions c.left-item.result) (sym c.loop-left.invariant.sizes.enabled_sized) here),
      ),
    )

pub mark_all-loop-left-preserved : goal.mark_all-loop-left-preserved
mark_all-loop-left-preserved t c =
    let all = c.args.all.now in
    let i = c.loop-left.left-index in
    let item = c.left-item.result in
    let old = c.args.marks.now in
    let mid = c.loop-left.marks in
    let new = c.mark_left.new.marks in
    let more = one_more all i item (at_index all i item c.loop-left-test.true c.left-item.is) in
    let sizes = c.loop-left.invariant.sizes in
    record {
      sizes = sizes_both old mid new sizes c.mark_left.ensures.sized;
      wanted = λ f h apart.
          wanted_next (left_tree f h) f (take i all) (take (i + 1) all) item old mid new more sizes (c.loop-left.invariant.wanted f h apart) (c.mark_left.ensures.marks f h (apart_after f old mid sizes apart));
    }

pub mark_all-returns-clause-marks : goal.mark_all-returns-clause-marks
mark_all-returns-clause-marks t c = λ f h apart.
    let all = c.args.all.now in
    let i = c.loop-left.left-index in
    wanted_whole (left_tree f h) f (take i all) all c.args.marks.now c.loop-left.marks (take_all i all (omega (arith, c.loop-left-test.false))) (c.loop-left.invariant.wanted f h apart)
