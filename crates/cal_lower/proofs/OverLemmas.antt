-- A plan that takes no row has no guards by which an actor acts.
use Rattle.std.proofs.Common.{◌≡◌, ℕ, ◌+◌, List, [], ◌++◌, true, refl, ap, ◌∙◌}
use Rattle.std.proofs.lemmas.Bool.{and_parts, cond-true}
use Rattle.net_core.specs.Guard.{GuardTree}
use Rattle.cal_ast.specs.Actors.{Actor}
use Rattle.cal_ast.specs.Plan.{Plan, Enables, InTurn, AtOnce, Chooses, Repeats, Plans, NoPlans, MorePlans}
use Rattle.cal_ast.specs.Tree.{PortName}
use Rattle.cal_walk.specs.Left.{is_over, are_over}
use Rattle.cal_token.specs.inside.Tokens.{size}
use Rattle.cal_lower.specs.inside.Parts.{enabling, enabling_in_turn, enabling_after, enabling_at_once, testing, testing_in_turn, testing_after, testing_at_once}

mutual
  pub over_enabling : (k : ℕ) (p : Plan) (start : GuardTree PortName) (actor : Actor) → is_over p ≡ true → enabling k p start actor ≡ []
  over_enabling k (Enables other) start actor over = absurd (cc)
  over_enabling k (InTurn ps) start actor over = over_enabling_in_turn (k + 1) ps start actor over
  over_enabling k (AtOnce ps) start actor over = over_enabling_at_once (k + 1) ps start actor over
  over_enabling k (Chooses port by on off) start actor over = absurd (cc)
  over_enabling k (Repeats port by body) start actor over = absurd (cc)

  over_enabling_in_turn : (k : ℕ) (ps : Plans) (start : GuardTree PortName) (actor : Actor) → are_over ps ≡ true → enabling_in_turn k ps start actor ≡ []
  over_enabling_in_turn k NoPlans start actor over = refl
  over_enabling_in_turn k (MorePlans p ps) start actor over =
      let each = and_parts (is_over p) (are_over ps) over in
      cond-true (is_over p) (enabling_in_turn (k + size p) ps start actor) (enabling k p start actor ++ enabling_after (k + size p) ps actor) each.0
      ∙ over_enabling_in_turn (k + size p) ps start actor each.1

  over_enabling_at_once : (k : ℕ) (ps : Plans) (start : GuardTree PortName) (actor : Actor) → are_over ps ≡ true → enabling_at_once k ps start actor ≡ []
  over_enabling_at_once k NoPlans start actor over = refl
  over_enabling_at_once k (MorePlans p ps) start actor over =
      let each = and_parts (is_over p) (are_over ps) over in
      ap (λ (gs : List (GuardTree PortName)). gs ++ enabling_at_once (k + size p) ps start actor) (cond-true (is_over p) [] (enabling k p start actor) each.0)
      ∙ over_enabling_at_once (k + size p) ps start actor each.1

mutual
  pub over_testing : (k : ℕ) (p : Plan) (start : GuardTree PortName) (actor : Actor) → is_over p ≡ true → testing k p start actor ≡ []
  over_testing k (Enables other) start actor over = refl
  over_testing k (InTurn ps) start actor over = over_testing_in_turn (k + 1) ps start actor over
  over_testing k (AtOnce ps) start actor over = over_testing_at_once (k + 1) ps start actor over
  over_testing k (Chooses port by on off) start actor over = absurd (cc)
  over_testing k (Repeats port by body) start actor over = absurd (cc)

  over_testing_in_turn : (k : ℕ) (ps : Plans) (start : GuardTree PortName) (actor : Actor) → are_over ps ≡ true → testing_in_turn k ps start actor ≡ []
  over_testing_in_turn k NoPlans start actor over = refl
  over_testing_in_turn k (MorePlans p ps) start actor over =
      let each = and_parts (is_over p) (are_over ps) over in
      cond-true (is_over p) (testing_in_turn (k + size p) ps start actor) (testing k p start actor ++ testing_after (k + size p) ps actor) each.0
      ∙ over_testing_in_turn (k + size p) ps start actor each.1

  over_testing_at_once : (k : ℕ) (ps : Plans) (start : GuardTree PortName) (actor : Actor) → are_over ps ≡ true → testing_at_once k ps start actor ≡ []
  over_testing_at_once k NoPlans start actor over = refl
  over_testing_at_once k (MorePlans p ps) start actor over =
      let each = and_parts (is_over p) (are_over ps) over in
      ap (λ (gs : List (GuardTree PortName)). gs ++ testing_at_once (k + size p) ps start actor) (cond-true (is_over p) [] (testing k p start actor) each.0)
      ∙ over_testing_at_once (k + size p) ps start actor each.1
