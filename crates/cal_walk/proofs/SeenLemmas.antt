-- What code has left of a plan after a row is what is left of it.
use Rattle.std.proofs.Common.{◌≡◌, ℕ, true, false, List, map, Option, Some, Vec, Global, refl, sym, ap, ap₂, ◌∙◌}
use Rattle.std.specs.Global.{Box}
use Rattle.std.specs.Prelude.{slice_get}
use Rattle.cal_ast.specs.Actors.{Actor}
use Rattle.cal_ast.specs.Plan.{Plan, Plans, InTurn, AtOnce, NoPlans, MorePlans}
use Rattle.cal_ast.specs.Tree.{PortName}
use Rattle.cal_walk.specs.Left.{Sight, nothing, left, left_in_turn, left_at_once, is_over, before_others}
use Rattle.cal_walk.specs.Trees.{plan_tree, slice_trees, plans_of, left_tree, IsSeen}
use Rattle.cal_walk.specs.declared.plan.Plan.TheVariants as variants
use Rattle.cal_walk.specs.declared.plan.Plan as code
use Rattle.cal_walk.specs.declared.left.Left as rest
use Rattle.cal_walk.specs.declared.left.Left.TheVariants as lefts
use Rattle.cal_walk.specs.declared.seen.Seen.{Seen}
use Rattle.cal_walk.proofs.TreeLemmas.{plan_tree-InTurn, plan_tree-AtOnce, left_tree-AtOnce}

module _ (f : ℕ → Actor) (h : ℕ → PortName) (s : Sight) where
  abbrev after : code.Plan → Plan
  after p = left s (plan_tree f h p)

  -- the plans of a plan
  pub in_turn_left : (plan : code.Plan) (v : Vec code.Plan Global) (items : List code.Plan) → plan ≡ variants.InTurn v → items ≡ v.items → left_in_turn s (slice_trees f h items) ≡ after plan
  in_turn_left plan v items is same =
      ap (λ (ps : List code.Plan). left_in_turn s (slice_trees f h ps)) same ∙ sym (ap after is ∙ ap (left s) (plan_tree-InTurn f h v))

  pub at_once_left : (plan : code.Plan) (v : Vec code.Plan Global) (items : List code.Plan) (all : Vec rest.Left Global) → plan ≡ variants.AtOnce v → items ≡ v.items
      → plans_of (map (left_tree f h) all.items) ≡ left_at_once s (slice_trees f h items) → left_tree f h (lefts.AtOnce all) ≡ after plan
  at_once_left plan v items all is same trees =
      left_tree-AtOnce f h all ∙ ap AtOnce (trees ∙ ap (λ (ps : List code.Plan). left_at_once s (slice_trees f h ps)) same) ∙ sym (ap after is ∙ ap (left s) (plan_tree-AtOnce f h v))

  -- what is left of what is left at once
  pub all_left : (l : rest.Left) (v : Vec rest.Left Global) (items : List rest.Left) (all : Vec rest.Left Global) → l ≡ lefts.AtOnce v → items ≡ v.items
      → plans_of (map (left_tree f h) all.items) ≡ left_at_once s (plans_of (map (left_tree f h) items)) → left_tree f h (lefts.AtOnce all) ≡ left s (left_tree f h l)
  all_left l v items all is same trees =
      left_tree-AtOnce f h all ∙ ap AtOnce (trees ∙ ap (λ (ls : List rest.Left). left_at_once s (plans_of (map (left_tree f h) ls))) same)
      ∙ sym (ap (λ (x : rest.Left). left s (left_tree f h x)) is ∙ ap (left s) (left_tree-AtOnce f h v))

  -- what is left of what is left in turn: of the first, if it takes a row, and else of the others
  module _ (l : rest.Left) (first : rest.Left) (others : Plans) (is : left_tree f h l ≡ InTurn (MorePlans (left_tree f h first) others)) where
    pub first_over : is_over (left_tree f h first) ≡ true → left_in_turn s others ≡ left s (left_tree f h l)
    first_over over =
        let now : left s (InTurn (MorePlans (left_tree f h first) others)) ≡ left_in_turn s others = rw over refl in
        sym (ap (left s) is ∙ now)

    pub first_lasts : is_over (left_tree f h first) ≡ false → (next : Plan) → next ≡ left s (left_tree f h first) → before_others next others ≡ left s (left_tree f h l)
    first_lasts lasts next same =
        let now : left s (InTurn (MorePlans (left_tree f h first) others)) ≡ before_others (left s (left_tree f h first)) others = rw lasts refl in
        ap (λ p. before_others p others) same ∙ sym (ap (left s) is ∙ now)

  module _ (seen : Seen) (is : IsSeen f h s seen) where
    -- an enabled actor that is done, and one that isn't
    pub done_left : (plan : code.Plan) (actor : ℕ) → plan ≡ variants.Enables actor → slice_get seen.done.items actor ≡ Some true → nothing ≡ after plan
    done_left plan actor e at =
        let d : s.done (f actor) ≡ true = is.done actor true at in
        let now : after (variants.Enables actor) ≡ nothing = rw d refl in
        sym (ap after e ∙ now)

    pub enabled_left : (plan : code.Plan) (actor : ℕ) → plan ≡ variants.Enables actor → slice_get seen.done.items actor ≡ Some false → plan_tree f h plan ≡ after plan
    enabled_left plan actor e at =
        let d : s.done (f actor) ≡ false = is.done actor false at in
        let now : after (variants.Enables actor) ≡ plan_tree f h (variants.Enables actor) = rw d refl in
        ap (plan_tree f h) e ∙ sym now ∙ sym (ap after e)

    -- a choice
    module _ (plan : code.Plan) (condition : ℕ) (by : Option ℕ) (on off : Box code.Plan) (e : plan ≡ variants.Chooses condition by on off) where
      pub on_left : slice_get seen.reads.items condition ≡ Some true → (p : code.Plan) → p ≡ on.value → plan_tree f h p ≡ after plan
      on_left at p same =
          let r : s.reads (h condition) ≡ true = is.reads condition true at in
          let now : after (variants.Chooses condition by on off) ≡ plan_tree f h on.value = rw r refl in
          ap (plan_tree f h) same ∙ sym now ∙ sym (ap after e)

      pub off_left : slice_get seen.reads.items condition ≡ Some false → (p : code.Plan) → p ≡ off.value → plan_tree f h p ≡ after plan
      off_left at p same =
          let r : s.reads (h condition) ≡ false = is.reads condition false at in
          let now : after (variants.Chooses condition by on off) ≡ plan_tree f h off.value = rw r refl in
          ap (plan_tree f h) same ∙ sym now ∙ sym (ap after e)

    -- a loop
    module _ (plan : code.Plan) (condition : ℕ) (by : Option ℕ) (body : Box code.Plan) (e : plan ≡ variants.Repeats condition by body) where
      pub loop_ends : slice_get seen.reads.items condition ≡ Some false → nothing ≡ after plan
      loop_ends at =
          let r : s.reads (h condition) ≡ false = is.reads condition false at in
          let now : after (variants.Repeats condition by body) ≡ nothing = rw r refl in
          sym (ap after e ∙ now)

      pub loop_turns : slice_get seen.reads.items condition ≡ Some true → (turn : Plan) → turn ≡ plan_tree f h body.value
          → InTurn (MorePlans turn (MorePlans (plan_tree f h plan) NoPlans)) ≡ after plan
      loop_turns at turn same =
          let r : s.reads (h condition) ≡ true = is.reads condition true at in
          let whole = plan_tree f h (variants.Repeats condition by body) in
          let now : after (variants.Repeats condition by body) ≡ InTurn (MorePlans (plan_tree f h body.value) (MorePlans whole NoPlans)) = rw r refl in
          ap₂ (λ (p q : Plan). InTurn (MorePlans p (MorePlans q NoPlans))) same (ap (plan_tree f h) e) ∙ sym now ∙ sym (ap after e)
