-- Plans that take no row: nothing acts in them, and nothing is left of them. Plans before others take a row where one of them does.
use Rattle.std.proofs.Common.{◌≡◌, true, false, ◌&&◌, refl, sym, ap, ◌∙◌}
use Rattle.std.proofs.lemmas.Bool.{and_parts, and_from, and_left, or_from, cond-true}
use Rattle.cal_ast.specs.Actors.{Actor}
use Rattle.cal_ast.specs.Plan.{Plan, Enables, InTurn, AtOnce, Chooses, Repeats, Plans, NoPlans, MorePlans}
use Rattle.cal_walk.specs.Left.{Sight, is_over, are_over, before_others, left, left_in_turn, left_at_once}
use Rattle.cal_walk.specs.Left.{enables, enables_in_turn, enables_at_once, tests, tests_in_turn, tests_at_once}
use Rattle.cal_token.proofs.TestLemmas.{and_true}

-- ---- what a plan that takes no row does

module _ (actor : Actor) where
  mutual
    pub over_enables : (p : Plan) → is_over p ≡ true → enables p actor ≡ false
    over_enables (Enables a) over = absurd (cc)
    over_enables (InTurn ps) over = over_enables_in_turn ps over
    over_enables (AtOnce ps) over = over_enables_at_once ps over
    over_enables (Chooses port by on off) over = refl
    over_enables (Repeats port by body) over = refl

    over_enables_in_turn : (ps : Plans) → are_over ps ≡ true → enables_in_turn ps actor ≡ false
    over_enables_in_turn NoPlans over = refl
    over_enables_in_turn (MorePlans p ps) over =
        let each = and_parts (is_over p) (are_over ps) over in
        cond-true (is_over p) (enables_in_turn ps actor) (enables p actor) each.0 ∙ over_enables_in_turn ps each.1

    over_enables_at_once : (ps : Plans) → are_over ps ≡ true → enables_at_once ps actor ≡ false
    over_enables_at_once NoPlans over = refl
    over_enables_at_once (MorePlans p ps) over =
        let each = and_parts (is_over p) (are_over ps) over in
        or_from (enables p actor) (enables_at_once ps actor) (over_enables p each.0) (over_enables_at_once ps each.1)

  mutual
    pub over_tests : (p : Plan) → is_over p ≡ true → tests p actor ≡ false
    over_tests (Enables a) over = refl
    over_tests (InTurn ps) over = over_tests_in_turn ps over
    over_tests (AtOnce ps) over = over_tests_at_once ps over
    over_tests (Chooses port by on off) over = absurd (cc)
    over_tests (Repeats port by body) over = absurd (cc)

    over_tests_in_turn : (ps : Plans) → are_over ps ≡ true → tests_in_turn ps actor ≡ false
    over_tests_in_turn NoPlans over = refl
    over_tests_in_turn (MorePlans p ps) over =
        let each = and_parts (is_over p) (are_over ps) over in
        cond-true (is_over p) (tests_in_turn ps actor) (tests p actor) each.0 ∙ over_tests_in_turn ps each.1

    over_tests_at_once : (ps : Plans) → are_over ps ≡ true → tests_at_once ps actor ≡ false
    over_tests_at_once NoPlans over = refl
    over_tests_at_once (MorePlans p ps) over =
        let each = and_parts (is_over p) (are_over ps) over in
        or_from (tests p actor) (tests_at_once ps actor) (over_tests p each.0) (over_tests_at_once ps each.1)

module _ (s : Sight) where
  mutual
    pub over_left : (p : Plan) → is_over p ≡ true → is_over (left s p) ≡ true
    over_left (Enables a) over = absurd (cc)
    over_left (InTurn ps) over = over_left_in_turn ps over
    over_left (AtOnce ps) over = over_left_at_once ps over
    over_left (Chooses port by on off) over = absurd (cc)
    over_left (Repeats port by body) over = absurd (cc)

    over_left_in_turn : (ps : Plans) → are_over ps ≡ true → is_over (left_in_turn s ps) ≡ true
    over_left_in_turn NoPlans over = refl
    over_left_in_turn (MorePlans p ps) over =
        let each = and_parts (is_over p) (are_over ps) over in
        ap (λ q. is_over q) (cond-true (is_over p) (left_in_turn s ps) (before_others (left s p) ps) each.0) ∙ over_left_in_turn ps each.1

    over_left_at_once : (ps : Plans) → are_over ps ≡ true → are_over (left_at_once s ps) ≡ true
    over_left_at_once NoPlans over = refl
    over_left_at_once (MorePlans p ps) over =
        let each = and_parts (is_over p) (are_over ps) over in
        and_from (is_over (left s p)) (are_over (left_at_once s ps)) (over_left p each.0) (over_left_at_once ps each.1)

-- ---- a plan before others

pub is_over_before : (p : Plan) (ps : Plans) → is_over (before_others p ps) ≡ (is_over p && are_over ps)
is_over_before p NoPlans = sym (and_true (is_over p))
is_over_before p (MorePlans q qs) = refl

pub before_lasts : (p : Plan) (ps : Plans) → is_over p ≡ false → is_over (before_others p ps) ≡ false
before_lasts p ps lasts = is_over_before p ps ∙ and_left (is_over p) (are_over ps) lasts

-- where nothing is left of the first, some is left of the others
pub others_remain : (p : Plan) (ps : Plans) → is_over p ≡ true → is_over (before_others p ps) ≡ false → are_over ps ≡ false
others_remain p ps over lasts = sym (ap (λ b. b && are_over ps) over) ∙ sym (is_over_before p ps) ∙ lasts

pub others_over : (p : Plan) (ps : Plans) → is_over (before_others p ps) ≡ true → are_over ps ≡ true
others_over p ps over = (and_parts (is_over p) (are_over ps) (sym (is_over_before p ps) ∙ over)).1
