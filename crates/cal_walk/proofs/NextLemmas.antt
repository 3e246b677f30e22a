-- What is left of plans at once, one after another, and with plans after it.
use Rattle.std.proofs.Common.{◌≡◌, ℕ, true, false, ◌==◌, List, [], ◌∷◌, ◌++◌, length, map, All, Bor, Result, IfOk, refl, sym, ap, ap₂, ◌∙◌, subst, arith}
use Rattle.hw_bits.specs.declared.memory.Memory.{Memory}
use Rattle.std.specs.Global.{Box}
use Rattle.std.proofs.lemmas.Bool.{ne_eqb}
use Rattle.cal_ast.specs.Actors.{Actor}
use Rattle.cal_ast.specs.Plan.{Plan, InTurn, NoPlans, MorePlans}
use Rattle.cal_ast.specs.Tree.{PortName}
use Rattle.cal_walk.specs.Left.{Sight, left, left_at_once, before_others}
use Rattle.cal_walk.specs.Trees.{plans_of, left_tree, IsWithin, LeftIsWithin}
use Rattle.cal_walk.specs.declared.plan.Plan as code
use Rattle.cal_walk.specs.declared.left.Left as rest
use Rattle.cal_walk.specs.declared.left.Left.TheVariants as lefts

-- one more of plans at once
pub lefts_push : {L X : Type 0} (rest : L → Plan) (tree : X → Plan) (s : Sight) (ls : List L) (l : L) (xs : List X) (x : X)
    → plans_of (map rest ls) ≡ left_at_once s (plans_of (map tree xs)) → rest l ≡ left s (tree x) → plans_of (map rest (ls ++ l ∷ [])) ≡ left_at_once s (plans_of (map tree (xs ++ x ∷ [])))
lefts_push rest tree s [] l [] x so_far is = ap (λ p. MorePlans p NoPlans) is
lefts_push rest tree s [] l (y ∷ xs) x so_far is = absurd (cc)
lefts_push rest tree s (k ∷ ls) l [] x so_far is = absurd (cc)
lefts_push rest tree s (k ∷ ls) l (y ∷ xs) x so_far is =
    let head : rest k ≡ left s (tree y) = cc in
    let tail : plans_of (map rest ls) ≡ left_at_once s (plans_of (map tree xs)) = cc in
    ap₂ MorePlans head (lefts_push rest tree s ls l xs x tail is)

-- the same of lists that are these
pub lefts_next : {L X : Type 0} (rest : L → Plan) (tree : X → Plan) (s : Sight) (ls new : List L) (l : L) (xs more : List X) (x : X) → new ≡ ls ++ l ∷ [] → more ≡ xs ++ x ∷ []
    → plans_of (map rest ls) ≡ left_at_once s (plans_of (map tree xs)) → rest l ≡ left s (tree x) → plans_of (map rest new) ≡ left_at_once s (plans_of (map tree more))
lefts_next {L} {X} rest tree s ls new l xs more x is_new is_more so_far is =
    ap (λ (ks : List L). plans_of (map rest ks)) is_new ∙ lefts_push rest tree s ls l xs x so_far is ∙ sym (ap (λ (ys : List X). left_at_once s (plans_of (map tree ys))) is_more)

-- no plans after, and some
module _ {X : Type 0} (tree : X → Plan) (p : Plan) where
  pub before_none : (xs : List X) → (length xs == 0) ≡ true → p ≡ before_others p (plans_of (map tree xs))
  before_none [] e = refl
  before_none (x ∷ xs) e = let some : (length (x ∷ xs) == 0) ≡ false = ne_eqb (length (x ∷ xs)) 0 (λ zero'. omega (arith, zero')) in absurd (cc)

  pub before_some : (xs : List X) → (length xs == 0) ≡ false → InTurn (MorePlans p (plans_of (map tree xs))) ≡ before_others p (plans_of (map tree xs))
  before_some [] e = absurd (cc)
  before_some (x ∷ xs) e = refl

-- ---- what a call gives

module _ (f : ℕ → Actor) (h : ℕ → PortName) (r : Result rest.Left Memory) where
  pub tree_same : (p q : Plan) → p ≡ q → IfOk r (λ rest. left_tree f h rest ≡ p) → IfOk r (λ rest. left_tree f h rest ≡ q)
  tree_same p q e given = subst (λ (x : Plan). IfOk r (λ rest. left_tree f h rest ≡ x)) e given

-- ---- numbers

module _ (actors conditions : ℕ) (others : Bor (List code.Plan)) (first : Box rest.Left) where
  pub within_in_turn : LeftIsWithin actors conditions first.value → All (IsWithin actors conditions) others.now → LeftIsWithin actors conditions (lefts.InTurn first others)
  within_in_turn one all = (one, all)
