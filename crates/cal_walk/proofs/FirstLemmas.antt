-- What is left of plans in turn, of which the first that takes a row is known.
use Rattle.std.proofs.Common.{◌≡◌, ℕ, suc, ◌+◌, ◌-◌, true, false, List, length, take, drop, Some, All, sym, ap, ◌∙◌, subst, arith, add-one}
use Rattle.std.specs.Prelude.{slice_get}
use Rattle.std.proofs.lemmas.List.{take_all, take_rest}
use Rattle.std.proofs.lemmas.List.Elements.{All-drop}
use Rattle.cal_ast.specs.Actors.{Actor}
use Rattle.cal_ast.specs.Plan.{Plan}
use Rattle.cal_ast.specs.Tree.{PortName}
use Rattle.cal_walk.specs.Left.{Sight, is_over, are_over, nothing, before_others, left, left_in_turn}
use Rattle.cal_walk.specs.Trees.{plan_tree, slice_trees}
use Rattle.cal_walk.specs.declared.plan.Plan as code
use Rattle.cal_walk.proofs.PastLemmas.{left_first, left_none}

-- the plans after one of them
abbrev pub later : List code.Plan → ℕ → List code.Plan
later plans number = take (length plans - (number + 1)) (drop (number + 1) plans)

later_is : (plans : List code.Plan) (number : ℕ) → later plans number ≡ drop (suc number) plans
later_is plans number = take_rest plans (number + 1) ∙ ap (λ (n : ℕ). drop n plans) (add-one number)

pub later_all : (P : code.Plan → Type 0) (plans : List code.Plan) (number : ℕ) → All P plans → All P (later plans number)
later_all P plans number all = subst (λ (ps : List code.Plan). All P ps) (sym (later_is plans number)) (All-drop P (suc number) plans all)

module _ (f : ℕ → Actor) (h : ℕ → PortName) (plans : List code.Plan) (number : ℕ) (over : are_over (slice_trees f h (take number plans)) ≡ true) where
  -- none takes a row
  pub all_over : number ≡ length plans → are_over (slice_trees f h plans) ≡ true
  all_over all =
      let whole : take number plans ≡ plans = take_all number plans (omega (arith, all)) in
      ap (λ (ps : List code.Plan). are_over (slice_trees f h ps)) (sym whole) ∙ over

  pub none_left : (s : Sight) → number ≡ length plans → nothing ≡ left_in_turn s (slice_trees f h plans)
  none_left s all = sym (left_none (plan_tree f h) plans s (all_over all))

  -- one takes a row, and those after it follow
  pub first_left : (s : Sight) (first : code.Plan) → slice_get plans number ≡ Some first → is_over (plan_tree f h first) ≡ false → (next : Plan) → next ≡ left s (plan_tree f h first)
      → before_others next (slice_trees f h (later plans number)) ≡ left_in_turn s (slice_trees f h plans)
  first_left s first at lasts next same =
      ap (λ (p : Plan). before_others p (slice_trees f h (later plans number))) same
      ∙ ap (λ (ps : List code.Plan). before_others (left s (plan_tree f h first)) (slice_trees f h ps)) (later_is plans number)
      ∙ sym (left_first (plan_tree f h) plans s number first over at lasts)
