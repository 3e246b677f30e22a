use Rattle.std.proofs.Common.{◌≡◌, ◌+◌, List, [], ◌∷◌, ◌++◌, length, map, take, sym, ap, subst, ◌∙◌, arith, rules}
use Rattle.std.proofs.lemmas.List.{take_all}
use Rattle.std.proofs.lemmas.List.Elements.{All-push, All-same}
use Rattle.cal_walk.specs.Left.{is_over, left, left_at_once}
use Rattle.cal_walk.specs.Trees.{plan_tree, left_tree, slice_trees, plans_of, LeftIsWithin}
use Rattle.cal_walk.specs.declared.left.Left.{Left, the_lemmas}
use Rattle.cal_walk.proofs.NextLemmas.{lefts_next, tree_same}
use Rattle.cal_walk.proofs.OverLemmas.{at_index, one_more}
use Rattle.cal_walk.proofs.SeenLemmas.{all_left, first_over, first_lasts}
use Rattle.cal_walk.proofs.TreeLemmas.{all_within, within_all}
use Rattle.cal_walk.proofs.WithinLemmas.{whole_within, in_turn_within, again_within}
use Rattle.cal_walk.proofs.left.+after_row.Goals as goal

pub after_row-returns-in-Nothing-clause-tree : goal.after_row-returns-in-Nothing-clause-tree
after_row-returns-in-Nothing-clause-tree t c = λ f h s is. sym (ap (λ (l : Left). left s (left_tree f h l)) c.in-Nothing.is)

-- ---- a plan that starts

pub after_row-after_start-requires : goal.after_row-after_start-requires
after_row-after_start-requires t c =
    let seen = c.args.seen.now in
    whole_within (length seen.done.items) (length seen.reads.items) c.args.before.now c.in-Whole.plan c.in-Whole.is c.requires

pub after_row-returns-in-Whole-clause-tree : goal.after_row-returns-in-Whole-clause-tree
after_row-returns-in-Whole-clause-tree t c = λ f h s is.
    tree_same f h c.after_start.result _ _ (sym (ap (λ (l : Left). left s (left_tree f h l)) c.in-Whole.is)) (c.after_start.ensures.tree f h s is)

-- ---- what is left of a plan, and the plans after it

pub after_row-after_first-requires : goal.after_row-after_first-requires
after_row-after_first-requires t c =
    let seen = c.args.seen.now in
    (in_turn_within (length seen.done.items) (length seen.reads.items) c.args.before.now c.in-InTurn.first c.in-InTurn.others c.in-InTurn.is c.requires).1

pub after_row-returns-then-left_over-clause-tree : goal.after_row-returns-then-left_over-clause-tree
after_row-returns-then-left_over-clause-tree t c = λ f h s is.
    let first = c.in-InTurn.first.value in
    let over = sym (ap (λ (l : Left). is_over (left_tree f h l)) c.deref.ensures) ∙ sym (c.left_over.ensures f h) ∙ c.if-left_over.true in
    tree_same f h c.after_first.result _ _
    (first_over f h s c.args.before.now first (slice_trees f h c.in-InTurn.others.now) (ap (left_tree f h) c.in-InTurn.is) over)
    (c.after_first.ensures.tree f h s is)

pub after_row-after_row-requires : goal.after_row-after_row-requires
after_row-after_row-requires t c =
    let seen = c.args.seen.now in
    let P = LeftIsWithin (length seen.done.items) (length seen.reads.items) in (
      search (rules, the_lemmas),
      subst P (sym c.deref-in-InTurn.ensures) (in_turn_within (length seen.done.items) (length seen.reads.items) c.args.before.now c.in-InTurn.first c.in-InTurn.others c.in-InTurn.is c.requires).0,
    )

pub after_row-returns-in_ok-first-in-InTurn-clause-tree : goal.after_row-returns-in_ok-first-in-InTurn-clause-tree
after_row-returns-in_ok-first-in-InTurn-clause-tree t c = λ f h s is.
    let first = c.in-InTurn.first.value in
    let lasts = sym (ap (λ (l : Left). is_over (left_tree f h l)) c.deref.ensures) ∙ sym (c.left_over.ensures f h) ∙ c.if-left_over.false in
    let next = c.in_ok-first-in-InTurn.ensures.tree f h s is ∙ ap (λ (l : Left). left s (left_tree f h l)) c.deref-in-InTurn.ensures in
    tree_same f h c.before_others.result _ _
    (first_lasts f h s c.args.before.now first (slice_trees f h c.in-InTurn.others.now) (ap (left_tree f h) c.in-InTurn.is) lasts (left_tree f h c.in_ok-first-in-InTurn.first) next)
    (c.before_others.ensures.tree f h)

pub after_row-returns-in_ok-first-in-InTurn-clause-within : goal.after_row-returns-in_ok-first-in-InTurn-clause-within
after_row-returns-in_ok-first-in-InTurn-clause-within t c =
    let seen = c.args.seen.now in
    c.before_others.ensures.within (length seen.done.items) (length seen.reads.items) c.in_ok-first-in-InTurn.ensures.within
    (in_turn_within (length seen.done.items) (length seen.reads.items) c.args.before.now c.in-InTurn.first c.in-InTurn.others c.in-InTurn.is c.requires).1

-- ---- what is left at once

pub after_row-after_each-requires : goal.after_row-after_each-requires
after_row-after_each-requires t c =
    let seen = c.args.seen.now in
    let P = LeftIsWithin (length seen.done.items) (length seen.reads.items) in
    (search (rules, the_lemmas), All-same P c.deref-in-AtOnce.result.now c.in-AtOnce.all.items c.deref-in-AtOnce.ensures.value (all_within (length seen.done.items) (length seen.reads.items) c.args.before.now c.in-AtOnce.all c.in-AtOnce.is c.requires))

pub after_row-returns-in_ok-after_each-in-AtOnce-clause-tree : goal.after_row-returns-in_ok-after_each-in-AtOnce-clause-tree
after_row-returns-in_ok-after_each-in-AtOnce-clause-tree t c = λ f h s is.
    all_left f h s c.args.before.now c.in-AtOnce.all c.deref-in-AtOnce.result.now c.in_ok-after_each-in-AtOnce.field-0 c.in-AtOnce.is c.deref-in-AtOnce.ensures.value (c.in_ok-after_each-in-AtOnce.ensures.trees f h s is)

pub after_row-returns-in_ok-after_each-in-AtOnce-clause-within : goal.after_row-returns-in_ok-after_each-in-AtOnce-clause-within
after_row-returns-in_ok-after_each-in-AtOnce-clause-within t c =
    let seen = c.args.seen.now in
    within_all (length seen.done.items) (length seen.reads.items) c.in_ok-after_each-in-AtOnce.field-0 c.in_ok-after_each-in-AtOnce.ensures.within

-- ---- what is left of a turn, and the loop

pub after_row-after_loop-requires : goal.after_row-after_loop-requires
after_row-after_loop-requires t c =
    let seen = c.args.seen.now in
    (again_within (length seen.done.items) (length seen.reads.items) c.args.before.now c.in-Again.turn c.in-Again.repeats c.in-Again.is c.requires).1

pub after_row-returns-then-left_over-2-clause-tree : goal.after_row-returns-then-left_over-2-clause-tree
after_row-returns-then-left_over-2-clause-tree t c = λ f h s is.
    let turn = c.in-Again.turn.value in
    let over = sym (ap (λ (l : Left). is_over (left_tree f h l)) c.deref-in-Again.ensures) ∙ sym (c.left_over-in-Again.ensures f h) ∙ c.if-left_over-2.true in
    tree_same f h c.after_loop.result _ _
    (first_over f h s c.args.before.now turn (plans_of (plan_tree f h c.in-Again.repeats.now ∷ [])) (ap (left_tree f h) c.in-Again.is) over)
    (c.after_loop.ensures.tree f h s is)

pub after_row-after_row-requires-in-Again : goal.after_row-after_row-requires-in-Again
after_row-after_row-requires-in-Again t c =
    let seen = c.args.seen.now in
    let P = LeftIsWithin (length seen.done.items) (length seen.reads.items) in (
      search (rules, the_lemmas),
      subst P (sym c.deref-in-Again-2.ensures) (again_within (length seen.done.items) (length seen.reads.items) c.args.before.now c.in-Again.turn c.in-Again.repeats c.in-Again.is c.requires).0,
    )

pub after_row-returns-in_ok-turn-in-Again-clause-tree : goal.after_row-returns-in_ok-turn-in-Again-clause-tree
after_row-returns-in_ok-turn-in-Again-clause-tree t c = λ f h s is.
    let turn = c.in-Again.turn.value in
    let lasts = sym (ap (λ (l : Left). is_over (left_tree f h l)) c.deref-in-Again.ensures) ∙ sym (c.left_over-in-Again.ensures f h) ∙ c.if-left_over-2.false in
    let next = ap (left_tree f h) c.in_ok-turn-in-Again.ensures.ok ∙ c.in_ok-after_row-in-Again.ensures.tree f h s is ∙ ap (λ (l : Left). left s (left_tree f h l)) c.deref-in-Again-2.ensures in
    first_lasts f h s c.args.before.now turn (plans_of (plan_tree f h c.in-Again.repeats.now ∷ [])) (ap (left_tree f h) c.in-Again.is) lasts (left_tree f h c.in_ok-turn-in-Again.turn.value) next

pub after_row-returns-in_ok-turn-in-Again-clause-within : goal.after_row-returns-in_ok-turn-in-Again-clause-within
after_row-returns-in_ok-turn-in-Again-clause-within t c =
    let seen = c.args.seen.now in (
      subst (LeftIsWithin (length seen.done.items) (length seen.reads.items)) (sym c.in_ok-turn-in-Again.ensures.ok) c.in_ok-after_row-in-Again.ensures.within,
      (again_within (length seen.done.items) (length seen.reads.items) c.args.before.now c.in-Again.turn c.in-Again.repeats c.in-Again.is c.requires).1,
    )

-- ---- each of what is left

pub after_each-after_row-requires : goal.after_each-after_row-requires
after_each-after_row-requires t c =
    let seen = c.args.seen.now in
    let P = LeftIsWithin (length seen.done.items) (length seen.reads.items) in
    (search (rules, the_lemmas), subst P (sym c.left-item.is) (c.requires c.loop-left.left-index c.left-item.result c.loop-left-test.true))

pub after_each-loop-left-preserved : goal.after_each-loop-left-preserved
after_each-loop-left-preserved t c =
    let seen = c.args.seen.now in
    let all = c.args.all.now in
    let i = c.loop-left.left-index in
    let item = c.left-item.result in
    let so_far = c.loop-left.next.items in
    let next = c.in_ok-after_row.field-0 in
    let more = one_more all i item (at_index all i item c.loop-left-test.true c.left-item.is) in
    let P = LeftIsWithin (length seen.done.items) (length seen.reads.items) in
    record {
      trees = λ f h s is.
          lefts_next (left_tree f h) (left_tree f h) s so_far c.push.new.self.items next (take i all) (take (i + 1) all) item c.in_ok-push.ensures.items more
          (c.loop-left.invariant.trees f h s is) (c.in_ok-after_row.ensures.tree f h s is);
      within = All-same P c.push.new.self.items (so_far ++ next ∷ []) c.in_ok-push.ensures.items (All-push P so_far next c.loop-left.invariant.within c.in_ok-after_row.ensures.within);
    }

pub after_each-returns-clause-trees : goal.after_each-returns-clause-trees
after_each-returns-clause-trees t c = λ f h s is.
    let all = c.args.all.now in
    let i = c.loop-left.left-index in
    let whole : take i all ≡ all = take_all i all (omega (arith, c.loop-left-test.false)) in
    c.loop-left.invariant.trees f h s is ∙ ap (λ (ls : List Left). left_at_once s (plans_of (map (left_tree f h) ls))) whole
