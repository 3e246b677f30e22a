-- The guards by which an actor is enabled, and acts in tests, are true where the tokens say so; where a plan doesn't name the actor they are false.
use Rattle.std.proofs.Common.{◌≡◌, ℕ, ◌+◌, List, [], ◌∷◌, ◌++◌, Bool, true, false, ◌&&◌, ◌||◌, Option, refl, ap, ◌∙◌}
use Rattle.std.specs.Prelude.{if◌then◌else◌}
use Rattle.std.proofs.lemmas.Bool.{and_right, or_from}
use Rattle.net_core.specs.Guard.{GuardTree, holds}
use Rattle.cal_ast.specs.Actors.{Actor, same_actor}
use Rattle.cal_ast.specs.Plan.{Plan, Enables, InTurn, AtOnce, Chooses, Repeats, Plans, NoPlans, MorePlans}
use Rattle.cal_ast.specs.Tree.{PortName}
use Rattle.cal_walk.specs.Left.{is_over, is_by}
use Rattle.cal_token.specs.inside.Tokens.{Token, Going, Starting, Again, size, is_tested, enables_by, enables_by_in_turn, others_enable, enables_by_at_once}
use Rattle.cal_token.specs.inside.Tokens.{tests_by, tests_by_in_turn, others_test, tests_by_at_once}
use Rattle.cal_token.proofs.TestLemmas.{neither, or_same}
use Rattle.cal_lower.specs.inside.Pieces.{has_token, either}
use Rattle.cal_lower.specs.inside.Parts.{none_if_over, tested_guard, enabling, enabling_in_turn, enabling_after, enabling_at_once, testing, testing_in_turn, testing_after, testing_at_once}
use Rattle.cal_lower.proofs.GuardLemmas.{any_true, holds_either, any_true-append, any_if, any_unless}
use Rattle.cal_lower.proofs.PartLemmas.{tokens_in, EachEnabled, EachEnabledIn, EachTested, EachTestedIn}

module _ (see : PortName → ℕ) (actor : Actor) where
  abbrev v : Token → Bool
  v = tokens_in see

  -- one list or another
  one_of : (b x y : Bool) (xs ys : List (GuardTree PortName)) → any_true see xs ≡ x → any_true see ys ≡ y → any_true see (if b then xs else ys) ≡ (if b then x else y)
  one_of true x y xs ys same other = same
  one_of false x y xs ys same other = other

  joined : (xs ys : List (GuardTree PortName)) (x y : Bool) → any_true see xs ≡ x → any_true see ys ≡ y → any_true see (xs ++ ys) ≡ (x || y)
  joined xs ys x y one other = any_true-append see xs ys ∙ or_same (any_true see xs) (any_true see ys) x y one other

  unless : (p : Plan) (xs : List (GuardTree PortName)) (x : Bool) → any_true see xs ≡ x → any_true see (none_if_over p xs) ≡ (if is_over p then false else x)
  unless p xs x one = any_unless see (is_over p) x xs one

  mutual
    pub enabling_is : (k : ℕ) (p : Plan) (start : GuardTree PortName) → any_true see (enabling k p start actor) ≡ enables_by v k p (holds see start) actor
    enabling_is k (Enables other) start =
        any_if see (same_actor other actor) (either start (has_token (Going k)))
        ∙ ap (λ x. x && same_actor other actor) (holds_either see start (has_token (Going k)))
    enabling_is k (InTurn ps) start = in_turn_is (k + 1) ps start
    enabling_is k (AtOnce ps) start = at_once_is (k + 1) ps start
    enabling_is k (Chooses port by on off) start =
        let left : List (GuardTree PortName) = enabling (k + 1) on (has_token (Starting (k + 1))) actor in
        let right : List (GuardTree PortName) = enabling (k + 1 + size on) off (has_token (Starting (k + 1 + size on))) actor in
        joined (none_if_over on left) (none_if_over off right) _ _ (unless on left _ (enabling_is (k + 1) on (has_token (Starting (k + 1)))))
        (unless off right _ (enabling_is (k + 1 + size on) off (has_token (Starting (k + 1 + size on)))))
    enabling_is k (Repeats port by body) start = unless body (enabling (k + 1) body (has_token (Starting (k + 1))) actor) _ (enabling_is (k + 1) body (has_token (Starting (k + 1))))

    in_turn_is : (k : ℕ) (ps : Plans) (start : GuardTree PortName) → any_true see (enabling_in_turn k ps start actor) ≡ enables_by_in_turn v k ps (holds see start) actor
    in_turn_is k NoPlans start = refl
    in_turn_is k (MorePlans p ps) start =
        let first : List (GuardTree PortName) = enabling k p start actor in
        let rest : List (GuardTree PortName) = enabling_after (k + size p) ps actor in
        one_of (is_over p) _ _ (enabling_in_turn (k + size p) ps start actor) (first ++ rest) (in_turn_is (k + size p) ps start)
        (joined first rest _ _ (enabling_is k p start) (after_is (k + size p) ps))

    after_is : (k : ℕ) (ps : Plans) → any_true see (enabling_after k ps actor) ≡ others_enable v k ps actor
    after_is k NoPlans = refl
    after_is k (MorePlans p ps) =
        let first : List (GuardTree PortName) = enabling k p (has_token (Starting k)) actor in
        joined (none_if_over p first) (enabling_after (k + size p) ps actor) _ _ (unless p first _ (enabling_is k p (has_token (Starting k)))) (after_is (k + size p) ps)

    at_once_is : (k : ℕ) (ps : Plans) (start : GuardTree PortName) → any_true see (enabling_at_once k ps start actor) ≡ enables_by_at_once v k ps (holds see start) actor
    at_once_is k NoPlans start = refl
    at_once_is k (MorePlans p ps) start =
        let first : List (GuardTree PortName) = enabling k p start actor in
        joined (none_if_over p first) (enabling_at_once (k + size p) ps start actor) _ _ (unless p first _ (enabling_is k p start)) (at_once_is (k + size p) ps start)

  mutual
    pub testing_is : (k : ℕ) (p : Plan) (start : GuardTree PortName) → any_true see (testing k p start actor) ≡ tests_by v k p (holds see start) actor
    testing_is k (Enables other) start = refl
    testing_is k (InTurn ps) start = tested_in_turn_is (k + 1) ps start
    testing_is k (AtOnce ps) start = tested_at_once_is (k + 1) ps start
    testing_is k (Chooses port by on off) start =
        let test : List (GuardTree PortName) = if is_by by actor then start ∷ [] else [] in
        let left : List (GuardTree PortName) = testing (k + 1) on (has_token (Starting (k + 1))) actor in
        let right : List (GuardTree PortName) = testing (k + 1 + size on) off (has_token (Starting (k + 1 + size on))) actor in
        joined (test ++ none_if_over on left) (none_if_over off right) _ _
        (joined test (none_if_over on left) _ _ (any_if see (is_by by actor) start) (unless on left _ (testing_is (k + 1) on (has_token (Starting (k + 1))))))
        (unless off right _ (testing_is (k + 1 + size on) off (has_token (Starting (k + 1 + size on)))))
    testing_is k (Repeats port by body) start =
        let test : List (GuardTree PortName) = if is_by by actor then tested_guard k start ∷ [] else [] in
        let rest : List (GuardTree PortName) = testing (k + 1) body (has_token (Starting (k + 1))) actor in
        joined test (none_if_over body rest) _ _ (any_if see (is_by by actor) (tested_guard k start) ∙ ap (λ x. x && is_by by actor) (holds_either see start (has_token (Again k))))
        (unless body rest _ (testing_is (k + 1) body (has_token (Starting (k + 1)))))

    tested_in_turn_is : (k : ℕ) (ps : Plans) (start : GuardTree PortName) → any_true see (testing_in_turn k ps start actor) ≡ tests_by_in_turn v k ps (holds see start) actor
    tested_in_turn_is k NoPlans start = refl
    tested_in_turn_is k (MorePlans p ps) start =
        let first : List (GuardTree PortName) = testing k p start actor in
        let rest : List (GuardTree PortName) = testing_after (k + size p) ps actor in
        one_of (is_over p) _ _ (testing_in_turn (k + size p) ps start actor) (first ++ rest) (tested_in_turn_is (k + size p) ps start)
        (joined first rest _ _ (testing_is k p start) (tested_after_is (k + size p) ps))

    tested_after_is : (k : ℕ) (ps : Plans) → any_true see (testing_after k ps actor) ≡ others_test v k ps actor
    tested_after_is k NoPlans = refl
    tested_after_is k (MorePlans p ps) =
        let first : List (GuardTree PortName) = testing k p (has_token (Starting k)) actor in
        joined (none_if_over p first) (testing_after (k + size p) ps actor) _ _ (unless p first _ (testing_is k p (has_token (Starting k)))) (tested_after_is (k + size p) ps)

    tested_at_once_is : (k : ℕ) (ps : Plans) (start : GuardTree PortName) → any_true see (testing_at_once k ps start actor) ≡ tests_by_at_once v k ps (holds see start) actor
    tested_at_once_is k NoPlans start = refl
    tested_at_once_is k (MorePlans p ps) start =
        let first : List (GuardTree PortName) = testing k p start actor in
        joined (none_if_over p first) (testing_at_once (k + size p) ps start actor) _ _ (unless p first _ (testing_is k p start)) (tested_at_once_is (k + size p) ps start)

-- ---- a plan that doesn't name the actor

module _ (v : Token → Bool) (actor : Actor) where
  abbrev IsOther : Actor → Type 0
  IsOther other = same_actor other actor ≡ false

  abbrev IsNotBy : Option Actor → Type 0
  IsNotBy by = is_by by actor ≡ false

  mutual
    pub never_enabled : (k : ℕ) (p : Plan) (start : Bool) → EachEnabled IsOther p → enables_by v k p start actor ≡ false
    never_enabled k (Enables other) start none = and_right (start || v (Going k)) (same_actor other actor) none
    never_enabled k (InTurn ps) start none = never_in_turn (k + 1) ps start none
    never_enabled k (AtOnce ps) start none = never_at_once (k + 1) ps start none
    never_enabled k (Chooses port by on off) start none =
        or_from _ _ (neither (is_over on) false _ refl (never_enabled (k + 1) on (v (Starting (k + 1))) none.0))
        (neither (is_over off) false _ refl (never_enabled (k + 1 + size on) off (v (Starting (k + 1 + size on))) none.1))
    never_enabled k (Repeats port by body) start none = neither (is_over body) false _ refl (never_enabled (k + 1) body (v (Starting (k + 1))) none)

    never_in_turn : (k : ℕ) (ps : Plans) (start : Bool) → EachEnabledIn IsOther ps → enables_by_in_turn v k ps start actor ≡ false
    never_in_turn k NoPlans start none = refl
    never_in_turn k (MorePlans p ps) start none =
        neither (is_over p) _ _ (never_in_turn (k + size p) ps start none.1)
        (or_from _ _ (never_enabled k p start none.0) (never_after (k + size p) ps none.1))

    never_after : (k : ℕ) (ps : Plans) → EachEnabledIn IsOther ps → others_enable v k ps actor ≡ false
    never_after k NoPlans none = refl
    never_after k (MorePlans p ps) none =
        or_from _ _ (neither (is_over p) false _ refl (never_enabled k p (v (Starting k)) none.0)) (never_after (k + size p) ps none.1)

    never_at_once : (k : ℕ) (ps : Plans) (start : Bool) → EachEnabledIn IsOther ps → enables_by_at_once v k ps start actor ≡ false
    never_at_once k NoPlans start none = refl
    never_at_once k (MorePlans p ps) start none =
        or_from _ _ (neither (is_over p) false _ refl (never_enabled k p start none.0)) (never_at_once (k + size p) ps start none.1)

  mutual
    pub never_tested : (k : ℕ) (p : Plan) (start : Bool) → EachTested IsNotBy p → tests_by v k p start actor ≡ false
    never_tested k (Enables other) start none = refl
    never_tested k (InTurn ps) start none = untested_in_turn (k + 1) ps start none
    never_tested k (AtOnce ps) start none = untested_at_once (k + 1) ps start none
    never_tested k (Chooses port by on off) start none =
        or_from _ _
        (or_from _ _ (and_right start (is_by by actor) none.0) (neither (is_over on) false _ refl (never_tested (k + 1) on (v (Starting (k + 1))) none.1)))
        (neither (is_over off) false _ refl (never_tested (k + 1 + size on) off (v (Starting (k + 1 + size on))) none.2))
    never_tested k (Repeats port by body) start none =
        or_from _ _ (and_right (is_tested v k start) (is_by by actor) none.0)
        (neither (is_over body) false _ refl (never_tested (k + 1) body (v (Starting (k + 1))) none.1))

    untested_in_turn : (k : ℕ) (ps : Plans) (start : Bool) → EachTestedIn IsNotBy ps → tests_by_in_turn v k ps start actor ≡ false
    untested_in_turn k NoPlans start none = refl
    untested_in_turn k (MorePlans p ps) start none =
        neither (is_over p) _ _ (untested_in_turn (k + size p) ps start none.1)
        (or_from _ _ (never_tested k p start none.0) (untested_after (k + size p) ps none.1))

    untested_after : (k : ℕ) (ps : Plans) → EachTestedIn IsNotBy ps → others_test v k ps actor ≡ false
    untested_after k NoPlans none = refl
    untested_after k (MorePlans p ps) none =
        or_from _ _ (neither (is_over p) false _ refl (never_tested k p (v (Starting k)) none.0)) (untested_after (k + size p) ps none.1)

    untested_at_once : (k : ℕ) (ps : Plans) (start : Bool) → EachTestedIn IsNotBy ps → tests_by_at_once v k ps start actor ≡ false
    untested_at_once k NoPlans start none = refl
    untested_at_once k (MorePlans p ps) start none =
        or_from _ _ (neither (is_over p) false _ refl (never_tested k p start none.0)) (untested_at_once (k + size p) ps start none.1)
