-- What is told of plans in turn by the first of them that takes a row.
use Rattle.std.proofs.Common.{◌≡◌, ℕ, zero, suc, true, false, List, [], ◌∷◌, map, take, drop, Some, refl, ap, ◌∙◌}
use Rattle.std.specs.Prelude.{slice_get, if◌then◌else◌}
use Rattle.std.proofs.lemmas.Bool.{and_parts}
use Rattle.cal_ast.specs.Actors.{Actor}
use Rattle.cal_ast.specs.Plan.{Plan, Plans, NoPlans, MorePlans}
use Rattle.cal_walk.specs.Left.{Sight, is_over, are_over, nothing, before_others, left, left_in_turn, enables, enables_in_turn, tests, tests_in_turn}
use Rattle.cal_walk.specs.Trees.{plans_of}

-- a function that passes plans over that take no row
module _ {X Y : Type 0} (tree : X → Plan) (F : Plans → Y) (G : Plan → Plans → Y) (more : (p : Plan) (ps : Plans) → F (MorePlans p ps) ≡ (if is_over p then F ps else G p ps)) where
  pub at_first : (xs : List X) (k : ℕ) (x : X) → are_over (plans_of (map tree (take k xs))) ≡ true → slice_get xs k ≡ Some x → is_over (tree x) ≡ false
      → F (plans_of (map tree xs)) ≡ G (tree x) (plans_of (map tree (drop (suc k) xs)))
  at_first [] k x over at lasts = absurd (cc)
  at_first (y ∷ xs) zero x over at lasts =
      let is : y ≡ x = cc in
      let here : is_over (tree y) ≡ false = ap (λ (z : X). is_over (tree z)) is ∙ lasts in
      more (tree y) (plans_of (map tree xs)) ∙ ap (λ b. if b then F (plans_of (map tree xs)) else G (tree y) (plans_of (map tree xs))) here ∙ ap (λ (z : X). G (tree z) (plans_of (map tree xs))) is
  at_first (y ∷ xs) (suc k) x over at lasts =
      let both = and_parts (is_over (tree y)) (are_over (plans_of (map tree (take k xs)))) over in
      more (tree y) (plans_of (map tree xs)) ∙ ap (λ b. if b then F (plans_of (map tree xs)) else G (tree y) (plans_of (map tree xs))) both.0 ∙ at_first xs k x both.1 at lasts

  pub at_none : (xs : List X) → are_over (plans_of (map tree xs)) ≡ true → F (plans_of (map tree xs)) ≡ F NoPlans
  at_none [] over = refl
  at_none (y ∷ xs) over =
      let both = and_parts (is_over (tree y)) (are_over (plans_of (map tree xs))) over in
      more (tree y) (plans_of (map tree xs)) ∙ ap (λ b. if b then F (plans_of (map tree xs)) else G (tree y) (plans_of (map tree xs))) both.0 ∙ at_none xs both.1

module _ {X : Type 0} (tree : X → Plan) (xs : List X) where
  pub left_first : (s : Sight) (k : ℕ) (x : X) → are_over (plans_of (map tree (take k xs))) ≡ true → slice_get xs k ≡ Some x → is_over (tree x) ≡ false
      → left_in_turn s (plans_of (map tree xs)) ≡ before_others (left s (tree x)) (plans_of (map tree (drop (suc k) xs)))
  left_first s k x over at lasts = at_first tree (left_in_turn s) (λ p ps. before_others (left s p) ps) (λ p ps. refl) xs k x over at lasts

  pub left_none : (s : Sight) → are_over (plans_of (map tree xs)) ≡ true → left_in_turn s (plans_of (map tree xs)) ≡ nothing
  left_none s over = at_none tree (left_in_turn s) (λ p ps. before_others (left s p) ps) (λ p ps. refl) xs over

  pub enables_first : (actor : Actor) (k : ℕ) (x : X) → are_over (plans_of (map tree (take k xs))) ≡ true → slice_get xs k ≡ Some x → is_over (tree x) ≡ false
      → enables_in_turn (plans_of (map tree xs)) actor ≡ enables (tree x) actor
  enables_first actor k x over at lasts = at_first tree (λ ps. enables_in_turn ps actor) (λ p ps. enables p actor) (λ p ps. refl) xs k x over at lasts

  pub enables_none : (actor : Actor) → are_over (plans_of (map tree xs)) ≡ true → enables_in_turn (plans_of (map tree xs)) actor ≡ false
  enables_none actor over = at_none tree (λ ps. enables_in_turn ps actor) (λ p ps. enables p actor) (λ p ps. refl) xs over

  pub tests_first : (actor : Actor) (k : ℕ) (x : X) → are_over (plans_of (map tree (take k xs))) ≡ true → slice_get xs k ≡ Some x → is_over (tree x) ≡ false
      → tests_in_turn (plans_of (map tree xs)) actor ≡ tests (tree x) actor
  tests_first actor k x over at lasts = at_first tree (λ ps. tests_in_turn ps actor) (λ p ps. tests p actor) (λ p ps. refl) xs k x over at lasts

  pub tests_none : (actor : Actor) → are_over (plans_of (map tree xs)) ≡ true → tests_in_turn (plans_of (map tree xs)) actor ≡ false
  tests_none actor over = at_none tree (λ ps. tests_in_turn ps actor) (λ p ps. tests p actor) (λ p ps. refl) xs over
