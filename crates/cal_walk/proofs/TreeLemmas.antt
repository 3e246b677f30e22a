-- Lists of plans that code has, and of what it has left of them, as lists of plans.
use Rattle.std.proofs.Common.{◌≡◌, ◌⊎◌, ℕ, zero, suc, ◌<◌, ◌≤◌, List, [], ◌∷◌, map, true, false, refl, sym, ap, ◌∙◌, subst, inl, inr, arith, Vec, Global, Option, Some, None, IfSome, All}
use Rattle.std.specs.Prelude.{slice_get}
use Rattle.std.specs.List.{AllByRecursion}
use Rattle.std.proofs.lemmas.Bool.{and_left, and_right, and_from}
use Rattle.std.proofs.lemmas.List.Elements.{All-from_recursion, recursion_from_All}
use mathlib.Core.Former.{Count}
use Rattle.cal_ast.specs.Actors.{Actor}
use Rattle.cal_ast.specs.Plan.{Plans, InTurn, AtOnce, MorePlans}
use Rattle.cal_ast.specs.Plan as spec
use Rattle.cal_ast.specs.Tree.{PortName}
use Rattle.cal_walk.specs.Left.{is_over, are_over}
use Rattle.cal_walk.specs.Trees.{plan_tree, plan_trees, slice_trees, plans_of, left_tree, left_trees, IsWithin, AreWithin, LeftIsWithin, LeftsAreWithin}
use Rattle.cal_walk.specs.declared.plan.Plan.{Plan, Row_of-Plan, end_of-Plan, more_of-Plan, items-the_row-Plan, items_hidden-the_row-Plan-0}
use Rattle.cal_walk.specs.declared.plan.Plan as code
use Rattle.cal_walk.specs.declared.plan.Plan.TheVariants as variants
use Rattle.cal_walk.specs.declared.left.Left.{Left, Row_of-Left, end_of-Left, more_of-Left, items-the_row-Left, items_hidden-the_row-Left-0}
use Rattle.cal_walk.specs.declared.left.Left as rest
use Rattle.cal_walk.specs.declared.left.Left.TheVariants as lefts

abbrev row_of : Plan → (n : Count) × Row_of-Plan n
row_of (code.InTurn' shape row) = (_, row)
row_of (code.AtOnce' shape row) = (_, row)
row_of plan = (_, end_of-Plan)

abbrev left_row : Left → (n : Count) × Row_of-Left n
left_row (rest.AtOnce' shape row) = (_, row)
left_row left = (_, end_of-Left)

module _ (f : ℕ → Actor) (h : ℕ → PortName) where
  row_is : (n : _) (r : Row_of-Plan n) → plan_trees f h r ≡ slice_trees f h (items-the_row-Plan n r)
  row_is n end_of-Plan = refl
  row_is n (more_of-Plan p others) = ap (MorePlans (plan_tree f h p)) (row_is _ others)

  pub plan_tree-InTurn : (v : Vec Plan Global) → plan_tree f h (variants.InTurn v) ≡ InTurn (slice_trees f h v.items)
  plan_tree-InTurn v = let r = row_of (variants.InTurn v) in ap InTurn (row_is r.0 r.1) ∙ ap (λ (ps : List Plan). InTurn (slice_trees f h ps)) (items_hidden-the_row-Plan-0 v)

  pub plan_tree-AtOnce : (v : Vec Plan Global) → plan_tree f h (variants.AtOnce v) ≡ AtOnce (slice_trees f h v.items)
  plan_tree-AtOnce v = let r = row_of (variants.AtOnce v) in ap AtOnce (row_is r.0 r.1) ∙ ap (λ (ps : List Plan). AtOnce (slice_trees f h ps)) (items_hidden-the_row-Plan-0 v)

  left_row_is : (n : _) (r : Row_of-Left n) → left_trees f h r ≡ plans_of (map (left_tree f h) (items-the_row-Left n r))
  left_row_is n end_of-Left = refl
  left_row_is n (more_of-Left l others) = ap (MorePlans (left_tree f h l)) (left_row_is _ others)

  pub left_tree-AtOnce : (v : Vec Left Global) → left_tree f h (lefts.AtOnce v) ≡ AtOnce (plans_of (map (left_tree f h) v.items))
  left_tree-AtOnce v =
      let r = left_row (lefts.AtOnce v) in
      ap AtOnce (left_row_is r.0 r.1) ∙ ap (λ (ls : List Left). AtOnce (plans_of (map (left_tree f h) ls))) (items_hidden-the_row-Left-0 v)

  -- a plan of plans takes no row where none of them does
  pub over_list : (p : Plan) (v : Vec Plan Global) (items : List Plan) → (p ≡ variants.InTurn v) ⊎ (p ≡ variants.AtOnce v) → items ≡ v.items
      → are_over (slice_trees f h items) ≡ is_over (plan_tree f h p)
  over_list p v items (inl is) same =
      ap (λ (ps : List Plan). are_over (slice_trees f h ps)) same ∙ sym (ap (λ (q : Plan). is_over (plan_tree f h q)) is ∙ ap is_over (plan_tree-InTurn v))
  over_list p v items (inr is) same =
      ap (λ (ps : List Plan). are_over (slice_trees f h ps)) same ∙ sym (ap (λ (q : Plan). is_over (plan_tree f h q)) is ∙ ap is_over (plan_tree-AtOnce v))

  pub left_over_list : (l : Left) (v : Vec Left Global) (items : List Left) → l ≡ lefts.AtOnce v → items ≡ v.items
      → are_over (plans_of (map (left_tree f h) items)) ≡ is_over (left_tree f h l)
  left_over_list l v items is same =
      ap (λ (ls : List Left). are_over (plans_of (map (left_tree f h) ls))) same ∙ sym (ap (λ (q : Left). is_over (left_tree f h q)) is ∙ ap is_over (left_tree-AtOnce v))

-- of trees in a list one takes a row, or none does
module _ {X : Type 0} (tree : X → spec.Plan) where
  pub one_lasts : (xs : List X) (k : ℕ) (x : X) → slice_get xs k ≡ Some x → is_over (tree x) ≡ false → are_over (plans_of (map tree xs)) ≡ false
  one_lasts [] k x at last = absurd (cc)
  one_lasts (y ∷ ys) zero x at last =
      let is : y ≡ x = cc in and_left (is_over (tree y)) (are_over (plans_of (map tree ys))) (ap (λ z. is_over (tree z)) is ∙ last)
  one_lasts (y ∷ ys) (suc k) x at last = and_right (is_over (tree y)) (are_over (plans_of (map tree ys))) (one_lasts ys k x at last)

  pub none_lasts : (xs : List X) → ((k : ℕ) (x : X) → slice_get xs k ≡ Some x → is_over (tree x) ≡ true) → are_over (plans_of (map tree xs)) ≡ true
  none_lasts [] over = refl
  none_lasts (y ∷ ys) over =
      and_from (is_over (tree y)) (are_over (plans_of (map tree ys))) (over 0 y refl) (none_lasts ys (λ k x at. over (suc k) x at))

-- ---- numbers

module _ (actors conditions : ℕ) where
  row_within : (n : Count) (r : Row_of-Plan n) → AreWithin actors conditions r → AllByRecursion (IsWithin actors conditions) (items-the_row-Plan n r)
  row_within n end_of-Plan within = tt
  row_within n (more_of-Plan p others) within = (within.0, row_within _ others within.1)

  -- each plan of a plan of plans
  pub list_within : (p : Plan) (v : Vec Plan Global) → (p ≡ variants.InTurn v) ⊎ (p ≡ variants.AtOnce v) → IsWithin actors conditions p → All (IsWithin actors conditions) v.items
  list_within p v (inl is) within =
      let W : Plan → Type 0 = IsWithin actors conditions in
      let r = row_of (variants.InTurn v) in
      let P : List Plan → Type 0 = AllByRecursion (IsWithin actors conditions) in
      All-from_recursion (IsWithin actors conditions) v.items (subst P (items_hidden-the_row-Plan-0 v) (row_within r.0 r.1 (subst W is within)))
  list_within p v (inr is) within =
      let W : Plan → Type 0 = IsWithin actors conditions in
      let r = row_of (variants.AtOnce v) in
      let P : List Plan → Type 0 = AllByRecursion (IsWithin actors conditions) in
      All-from_recursion (IsWithin actors conditions) v.items (subst P (items_hidden-the_row-Plan-0 v) (row_within r.0 r.1 (subst W is within)))

  left_row_within : (n : Count) (r : Row_of-Left n) → LeftsAreWithin actors conditions r → AllByRecursion (LeftIsWithin actors conditions) (items-the_row-Left n r)
  left_row_within n end_of-Left within = tt
  left_row_within n (more_of-Left l others) within = (within.0, left_row_within _ others within.1)

  row_from_within : (n : Count) (r : Row_of-Left n) → AllByRecursion (LeftIsWithin actors conditions) (items-the_row-Left n r) → LeftsAreWithin actors conditions r
  row_from_within n end_of-Left within = tt
  row_from_within n (more_of-Left l others) within = (within.0, row_from_within _ others within.1)

  -- what is left of each of plans at once
  pub all_within : (l : Left) (v : Vec Left Global) → l ≡ lefts.AtOnce v → LeftIsWithin actors conditions l → All (LeftIsWithin actors conditions) v.items
  all_within l v is within =
      let W : Left → Type 0 = LeftIsWithin actors conditions in
      let r = left_row (lefts.AtOnce v) in
      let P : List Left → Type 0 = AllByRecursion (LeftIsWithin actors conditions) in
      All-from_recursion (LeftIsWithin actors conditions) v.items (subst P (items_hidden-the_row-Left-0 v) (left_row_within r.0 r.1 (subst W is within)))

  pub within_all : (v : Vec Left Global) → All (LeftIsWithin actors conditions) v.items → LeftIsWithin actors conditions (lefts.AtOnce v)
  within_all v all =
      let r = left_row (lefts.AtOnce v) in
      let P : List Left → Type 0 = AllByRecursion (LeftIsWithin actors conditions) in
      row_from_within r.0 r.1 (subst P (sym (items_hidden-the_row-Left-0 v)) (recursion_from_All (LeftIsWithin actors conditions) v.items all))

  plan_row_from : (n : Count) (r : Row_of-Plan n) → AllByRecursion (IsWithin actors conditions) (items-the_row-Plan n r) → AreWithin actors conditions r
  plan_row_from n end_of-Plan within = tt
  plan_row_from n (more_of-Plan p others) within = (within.0, plan_row_from _ others within.1)

  pub within_list : (v : Vec Plan Global) → All (IsWithin actors conditions) v.items → IsWithin actors conditions (variants.InTurn v) × IsWithin actors conditions (variants.AtOnce v)
  within_list v all =
      let r = row_of (variants.InTurn v) in
      let P : List Plan → Type 0 = AllByRecursion (IsWithin actors conditions) in
      let row = plan_row_from r.0 r.1 (subst P (sym (items_hidden-the_row-Plan-0 v)) (recursion_from_All (IsWithin actors conditions) v.items all)) in
      (row, row)

-- more actors and conditions
module _ (a b more_actors more_conditions : ℕ) (actors : a ≤ more_actors) (conditions : b ≤ more_conditions) where
  some_more : (by : Option ℕ) → IfSome by (λ actor. actor < a) → IfSome by (λ actor. actor < more_actors)
  some_more None within = tt
  some_more (Some actor) within = omega (arith, within, actors)

  mutual
    pub within_more : (p : Plan) → IsWithin a b p → IsWithin more_actors more_conditions p
    within_more (code.Enables actor) within = omega (arith, within, actors)
    within_more (code.InTurn' shape ps) within = row_more ps within
    within_more (code.AtOnce' shape ps) within = row_more ps within
    within_more (code.Chooses' condition by p on q off) within = (omega (arith, within.0, conditions), some_more by within.1, within_more on within.2, within_more off within.3)
    within_more (code.Repeats' condition by p body) within = (omega (arith, within.0, conditions), some_more by within.1, within_more body within.2)

    row_more : {m : _} (ps : Row_of-Plan m) → AreWithin a b ps → AreWithin more_actors more_conditions ps
    row_more end_of-Plan within = tt
    row_more (more_of-Plan p ps) within = (within_more p within.0, row_more ps within.1)
