use Rattle.std.proofs.Common.{◌≡◌, ◌+◌, ◌<◌, List, [], ◌∷◌, ◌++◌, length, take, Some, inl, inr, sym, ap, subst, ◌∙◌, arith, rules}
use Rattle.std.proofs.lemmas.List.{take_all}
use Rattle.std.proofs.lemmas.List.Elements.{All-push, All-same}
use Rattle.cal_walk.specs.Left.{left_at_once}
use Rattle.cal_walk.specs.Trees.{plan_tree, left_tree, slice_trees, IsWithin, LeftIsWithin}
use Rattle.cal_walk.specs.declared.plan.Plan.{Plan, the_lemmas}
use Rattle.cal_walk.proofs.FirstLemmas.{later_all, none_left, first_left}
use Rattle.cal_walk.proofs.NextLemmas.{lefts_next, tree_same}
use Rattle.cal_walk.proofs.OverLemmas.{at_index, one_more}
use Rattle.cal_walk.proofs.SeenLemmas.{in_turn_left, at_once_left, done_left, enabled_left, on_left, off_left, loop_ends, loop_turns}
use Rattle.cal_walk.proofs.TreeLemmas.{list_within, within_all}
use Rattle.cal_walk.proofs.WithinLemmas.{read_at, enables_within, chooses_within, repeats_within}
use Rattle.cal_walk.proofs.left.+after_start.Goals as goal

-- ---- an enabled actor

pub after_start-index-requires : goal.after_start-index-requires
after_start-index-requires t c =
    let seen = c.args.seen.now in
    let within : c.in-Enables.actor < length seen.done.items = enables_within (length seen.done.items) (length seen.reads.items) c.args.plan.now c.in-Enables.actor c.in-Enables.is c.requires in
    omega (arith, within, seen.done.ok.0)

pub after_start-returns-then-index-clause-tree : goal.after_start-returns-then-index-clause-tree
after_start-returns-then-index-clause-tree t c = λ f h s is.
    let seen = c.args.seen.now in
    let within : c.in-Enables.actor < length seen.done.items = enables_within (length seen.done.items) (length seen.reads.items) c.args.plan.now c.in-Enables.actor c.in-Enables.is c.requires in
    let at = read_at seen.done c.in-Enables.actor c.index.result.now within c.index.ensures in
    done_left f h s seen is c.args.plan.now c.in-Enables.actor c.in-Enables.is (at ∙ ap Some c.if-index.true)

pub after_start-returns-else-index-clause-tree : goal.after_start-returns-else-index-clause-tree
after_start-returns-else-index-clause-tree t c = λ f h s is.
    let seen = c.args.seen.now in
    let within : c.in-Enables.actor < length seen.done.items = enables_within (length seen.done.items) (length seen.reads.items) c.args.plan.now c.in-Enables.actor c.in-Enables.is c.requires in
    let at = read_at seen.done c.in-Enables.actor c.index.result.now within c.index.ensures in
    enabled_left f h s seen is c.args.plan.now c.in-Enables.actor c.in-Enables.is (at ∙ ap Some c.if-index.false)

-- ---- plans in turn

pub after_start-after_first-requires : goal.after_start-after_first-requires
after_start-after_first-requires t c =
    let seen = c.args.seen.now in
    let P = IsWithin (length seen.done.items) (length seen.reads.items) in
    (search (rules, the_lemmas), All-same P c.deref.result.now c.in-InTurn.plans.items c.deref.ensures.value (list_within (length seen.done.items) (length seen.reads.items) c.args.plan.now c.in-InTurn.plans (inl c.in-InTurn.is) c.requires))

pub after_start-returns-in-InTurn-clause-tree : goal.after_start-returns-in-InTurn-clause-tree
after_start-returns-in-InTurn-clause-tree t c = λ f h s is.
    tree_same f h c.after_first.result _ _ (in_turn_left f h s c.args.plan.now c.in-InTurn.plans c.deref.result.now c.in-InTurn.is c.deref.ensures.value)
    (c.after_first.ensures.tree f h s is)

-- ---- plans at once

pub after_start-after_each_start-requires : goal.after_start-after_each_start-requires
after_start-after_each_start-requires t c =
    let seen = c.args.seen.now in
    let P = IsWithin (length seen.done.items) (length seen.reads.items) in
    (search (rules, the_lemmas), All-same P c.deref-in-AtOnce.result.now c.in-AtOnce.plans.items c.deref-in-AtOnce.ensures.value (list_within (length seen.done.items) (length seen.reads.items) c.args.plan.now c.in-AtOnce.plans (inr c.in-AtOnce.is) c.requires))

pub after_start-returns-in_ok-after_each_start-in-AtOnce-clause-tree : goal.after_start-returns-in_ok-after_each_start-in-AtOnce-clause-tree
after_start-returns-in_ok-after_each_start-in-AtOnce-clause-tree t c = λ f h s is.
    at_once_left f h s c.args.plan.now c.in-AtOnce.plans c.deref-in-AtOnce.result.now c.in_ok-after_each_start-in-AtOnce.field-0 c.in-AtOnce.is c.deref-in-AtOnce.ensures.value (c.in_ok-after_each_start-in-AtOnce.ensures.trees f h s is)

pub after_start-returns-in_ok-after_each_start-in-AtOnce-clause-within : goal.after_start-returns-in_ok-after_each_start-in-AtOnce-clause-within
after_start-returns-in_ok-after_each_start-in-AtOnce-clause-within t c =
    let seen = c.args.seen.now in
    within_all (length seen.done.items) (length seen.reads.items) c.in_ok-after_each_start-in-AtOnce.field-0 c.in_ok-after_each_start-in-AtOnce.ensures.within

-- ---- a choice

pub after_start-index-requires-in-Chooses : goal.after_start-index-requires-in-Chooses
after_start-index-requires-in-Chooses t c =
    let seen = c.args.seen.now in
    let within : c.in-Chooses.condition < length seen.reads.items = (chooses_within (length seen.done.items) (length seen.reads.items) c.args.plan.now c.in-Chooses.condition _ c.in-Chooses.on c.in-Chooses.off c.in-Chooses.is c.requires).0 in
    omega (arith, within, seen.reads.ok.0)

pub after_start-returns-then-index-2-clause-tree : goal.after_start-returns-then-index-2-clause-tree
after_start-returns-then-index-2-clause-tree t c = λ f h s is.
    let seen = c.args.seen.now in
    let within : c.in-Chooses.condition < length seen.reads.items = (chooses_within (length seen.done.items) (length seen.reads.items) c.args.plan.now c.in-Chooses.condition _ c.in-Chooses.on c.in-Chooses.off c.in-Chooses.is c.requires).0 in
    let at = read_at seen.reads c.in-Chooses.condition c.index-in-Chooses.result.now within c.index-in-Chooses.ensures in
    on_left f h s seen is c.args.plan.now c.in-Chooses.condition _ c.in-Chooses.on c.in-Chooses.off c.in-Chooses.is (at ∙ ap Some c.if-index-2.true) c.deref-then-index-2.result.now c.deref-then-index-2.ensures

pub after_start-returns-then-index-2-clause-within : goal.after_start-returns-then-index-2-clause-within
after_start-returns-then-index-2-clause-within t c =
    let seen = c.args.seen.now in
    subst (IsWithin (length seen.done.items) (length seen.reads.items)) (sym c.deref-then-index-2.ensures)
    (chooses_within (length seen.done.items) (length seen.reads.items) c.args.plan.now c.in-Chooses.condition _ c.in-Chooses.on c.in-Chooses.off c.in-Chooses.is c.requires).2

pub after_start-returns-else-index-2-clause-tree : goal.after_start-returns-else-index-2-clause-tree
after_start-returns-else-index-2-clause-tree t c = λ f h s is.
    let seen = c.args.seen.now in
    let within : c.in-Chooses.condition < length seen.reads.items = (chooses_within (length seen.done.items) (length seen.reads.items) c.args.plan.now c.in-Chooses.condition _ c.in-Chooses.on c.in-Chooses.off c.in-Chooses.is c.requires).0 in
    let at = read_at seen.reads c.in-Chooses.condition c.index-in-Chooses.result.now within c.index-in-Chooses.ensures in
    off_left f h s seen is c.args.plan.now c.in-Chooses.condition _ c.in-Chooses.on c.in-Chooses.off c.in-Chooses.is (at ∙ ap Some c.if-index-2.false) c.deref-else-index-2.result.now c.deref-else-index-2.ensures

pub after_start-returns-else-index-2-clause-within : goal.after_start-returns-else-index-2-clause-within
after_start-returns-else-index-2-clause-within t c =
    let seen = c.args.seen.now in
    subst (IsWithin (length seen.done.items) (length seen.reads.items)) (sym c.deref-else-index-2.ensures)
    (chooses_within (length seen.done.items) (length seen.reads.items) c.args.plan.now c.in-Chooses.condition _ c.in-Chooses.on c.in-Chooses.off c.in-Chooses.is c.requires).3

-- ---- a loop

pub after_start-index-requires-in-Repeats : goal.after_start-index-requires-in-Repeats
after_start-index-requires-in-Repeats t c =
    let seen = c.args.seen.now in
    let within : c.in-Repeats.condition < length seen.reads.items = (repeats_within (length seen.done.items) (length seen.reads.items) c.args.plan.now c.in-Repeats.condition _ c.in-Repeats.body c.in-Repeats.is c.requires).0 in
    omega (arith, within, seen.reads.ok.0)

pub after_start-returns-then-not-index-clause-tree : goal.after_start-returns-then-not-index-clause-tree
after_start-returns-then-not-index-clause-tree t c = λ f h s is.
    let seen = c.args.seen.now in
    let within : c.in-Repeats.condition < length seen.reads.items = (repeats_within (length seen.done.items) (length seen.reads.items) c.args.plan.now c.in-Repeats.condition _ c.in-Repeats.body c.in-Repeats.is c.requires).0 in
    let at = read_at seen.reads c.in-Repeats.condition c.index-in-Repeats.result.now within c.index-in-Repeats.ensures in
    loop_ends f h s seen is c.args.plan.now c.in-Repeats.condition _ c.in-Repeats.body c.in-Repeats.is (at ∙ ap Some c.if-not-index.true)

pub after_start-returns-in_ok-turn-in-Repeats-clause-tree : goal.after_start-returns-in_ok-turn-in-Repeats-clause-tree
after_start-returns-in_ok-turn-in-Repeats-clause-tree t c = λ f h s is.
    let seen = c.args.seen.now in
    let within : c.in-Repeats.condition < length seen.reads.items = (repeats_within (length seen.done.items) (length seen.reads.items) c.args.plan.now c.in-Repeats.condition _ c.in-Repeats.body c.in-Repeats.is c.requires).0 in
    let at = read_at seen.reads c.in-Repeats.condition c.index-in-Repeats.result.now within c.index-in-Repeats.ensures in
    loop_turns f h s seen is c.args.plan.now c.in-Repeats.condition _ c.in-Repeats.body c.in-Repeats.is (at ∙ ap Some c.if-not-index.false) (left_tree f h c.in_ok-turn-in-Repeats.turn.value)
    (ap (left_tree f h) c.in_ok-turn-in-Repeats.ensures.ok ∙ ap (plan_tree f h) c.deref-in-Repeats.ensures)

pub after_start-returns-in_ok-turn-in-Repeats-clause-within : goal.after_start-returns-in_ok-turn-in-Repeats-clause-within
after_start-returns-in_ok-turn-in-Repeats-clause-within t c =
    let seen = c.args.seen.now in
    let body = (repeats_within (length seen.done.items) (length seen.reads.items) c.args.plan.now c.in-Repeats.condition _ c.in-Repeats.body c.in-Repeats.is c.requires).2 in (
      subst (LeftIsWithin (length seen.done.items) (length seen.reads.items)) (sym c.in_ok-turn-in-Repeats.ensures.ok) (subst (IsWithin (length seen.done.items) (length seen.reads.items)) (sym c.deref-in-Repeats.ensures) body),
      c.requires,
    )

-- ---- the first that takes a row

pub after_first-returns-then-number-plans-clause-tree : goal.after_first-returns-then-number-plans-clause-tree
after_first-returns-then-number-plans-clause-tree t c = λ f h s is.
    none_left f h c.args.plans.now c.first_lasting-number.result (c.first_lasting-number.ensures.over f h) s c.if-number-plans.true

pub after_first-after_start-requires : goal.after_first-after_start-requires
after_first-after_start-requires t c =
    let seen = c.args.seen.now in
    let number = c.first_lasting-number.result in
    let first = c.index-plans-number.result in
    let P = IsWithin (length seen.done.items) (length seen.reads.items) in
    let less : number < length c.args.plans.now = omega (arith, c.first_lasting-number.ensures.within, c.if-number-plans.false) in
    (search (rules, the_lemmas), subst P (sym c.index-plans-number.is) (c.requires number first less))

pub after_first-returns-clause-tree : goal.after_first-returns-clause-tree
after_first-returns-clause-tree t c = λ f h s is.
    let plans = c.args.plans.now in
    let number = c.first_lasting-number.result in
    let first = c.index-plans-number.result in
    let less : number < length plans = omega (arith, c.first_lasting-number.ensures.within, c.if-number-plans.false) in
    let at = at_index plans number first less c.index-plans-number.is in
    tree_same f h c.before_others.result _ _
    (first_left f h plans number (c.first_lasting-number.ensures.over f h) s first at (c.first_lasting-number.ensures.lasts f h first at) (left_tree f h c.in_ok-first.first) (c.in_ok-first.ensures.tree f h s is))
    (c.before_others.ensures.tree f h)

pub after_first-returns-clause-within : goal.after_first-returns-clause-within
after_first-returns-clause-within t c =
    let seen = c.args.seen.now in
    let number = c.first_lasting-number.result in
    c.before_others.ensures.within (length seen.done.items) (length seen.reads.items) c.in_ok-first.ensures.within (later_all (IsWithin (length seen.done.items) (length seen.reads.items)) c.args.plans.now number c.requires)

-- ---- each of plans at once

pub after_each_start-after_start-requires : goal.after_each_start-after_start-requires
after_each_start-after_start-requires t c =
    let seen = c.args.seen.now in
    let P = IsWithin (length seen.done.items) (length seen.reads.items) in
    (search (rules, the_lemmas), subst P (sym c.plan-item.is) (c.requires c.loop-plan.plan-index c.plan-item.result c.loop-plan-test.true))

pub after_each_start-loop-plan-preserved : goal.after_each_start-loop-plan-preserved
after_each_start-loop-plan-preserved t c =
    let seen = c.args.seen.now in
    let plans = c.args.plans.now in
    let i = c.loop-plan.plan-index in
    let item = c.plan-item.result in
    let all = c.loop-plan.all.items in
    let next = c.in_ok-after_start.field-0 in
    let more = one_more plans i item (at_index plans i item c.loop-plan-test.true c.plan-item.is) in
    let P = LeftIsWithin (length seen.done.items) (length seen.reads.items) in
    record {
      trees = λ f h s is.
          lefts_next (left_tree f h) (plan_tree f h) s all c.push.new.self.items next (take i plans) (take (i + 1) plans) item c.in_ok-push.ensures.items more
          (c.loop-plan.invariant.trees f h s is) (c.in_ok-after_start.ensures.tree f h s is);
      within = All-same P c.push.new.self.items (all ++ next ∷ []) c.in_ok-push.ensures.items (All-push P all next c.loop-plan.invariant.within c.in_ok-after_start.ensures.within);
    }

pub after_each_start-returns-clause-trees : goal.after_each_start-returns-clause-trees
after_each_start-returns-clause-trees t c = λ f h s is.
    let plans = c.args.plans.now in
    let i = c.loop-plan.plan-index in
    let whole : take i plans ≡ plans = take_all i plans (omega (arith, c.loop-plan-test.false)) in
    c.loop-plan.invariant.trees f h s is ∙ ap (λ (ps : List Plan). left_at_once s (slice_trees f h ps)) whole
