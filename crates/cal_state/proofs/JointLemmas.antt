-- Tokens of one part that are read together alone: what a plan does is the same where one stands for the other.
use Rattle.std.proofs.Common.{◌≡◌, ℕ, ◌+◌, Bool, true, false, not, ◌&&◌, ◌||◌, MatchBool, refl, sym, ap, ap₂, subst, ◌∙◌, inl, inr}
use Rattle.std.specs.Prelude.{if◌then◌else◌}
use Rattle.std.proofs.lemmas.Bool.{cases_Bool}
use Rattle.cal_ast.specs.Actors.{Actor, same_actor}
use Rattle.cal_ast.specs.Plan.{Plan, Enables, InTurn, AtOnce, Chooses, Repeats, Plans, NoPlans, MorePlans}
use Rattle.cal_walk.specs.Left.{Sight, is_over, are_over, is_by}
use Rattle.cal_token.specs.inside.Tokens.{Tokens, Going, Starting, Ended, Again, size, unless_over, WithStart, is_tested}
use Rattle.cal_token.specs.inside.Tokens.{ends, ends_in_turn, the_last_ends, have_ended, ends_later}
use Rattle.cal_token.specs.inside.Tokens.{enables_by, enables_by_in_turn, others_enable, enables_by_at_once, tests_by, tests_by_in_turn, others_test, tests_by_at_once}
use Rattle.cal_token.specs.inside.Tokens.{Steps, StepInTurn, OthersStep, StepAtOnce, StepsLater}
use Rattle.cal_token.proofs.TestLemmas.{or_same, and_same, at_true, at_false, of_true, of_false}

-- what follows of a part unless it takes no row
abbrev pub Lasting : Plan → Type 0 → Type 0
Lasting p fact = MatchBool (is_over p) (Unit {0}) fact

-- the tokens v, with the start, say of the part with number k what w says with the other start
abbrev mutual
  pub Joint : (v w : Tokens) → ℕ → Plan → (start other : Bool) → Type 0
  Joint v w k (Enables actor) start other = (start || v (Going k)) ≡ (other || w (Going k))
  Joint v w k (InTurn ps) start other = JointInTurn v w (k + 1) ps start other
  Joint v w k (AtOnce ps) start other = JointAtOnce v w (k + 1) ps start other
  Joint v w k (Chooses port by on off) start other =
      (start ≡ other) × Lasting on (Joint v w (k + 1) on (v (Starting (k + 1))) (w (Starting (k + 1))))
      × Lasting off (Joint v w (k + 1 + size on) off (v (Starting (k + 1 + size on))) (w (Starting (k + 1 + size on))))
  Joint v w k (Repeats port by body) start other =
      (is_tested v k start ≡ is_tested w k other) × Lasting body (Joint v w (k + 1) body (v (Starting (k + 1))) (w (Starting (k + 1))))

  pub JointInTurn : (v w : Tokens) → ℕ → Plans → (start other : Bool) → Type 0
  JointInTurn v w k NoPlans start other = Unit {0}
  JointInTurn v w k (MorePlans p ps) start other =
      MatchBool (is_over p) (JointInTurn v w (k + size p) ps start other) (Joint v w k p start other × JointAfter v w (k + size p) ps)

  pub JointAfter : (v w : Tokens) → ℕ → Plans → Type 0
  JointAfter v w k NoPlans = Unit {0}
  JointAfter v w k (MorePlans p ps) = Lasting p (Joint v w k p (v (Starting k)) (w (Starting k))) × JointAfter v w (k + size p) ps

  pub JointAtOnce : (v w : Tokens) → ℕ → Plans → (start other : Bool) → Type 0
  JointAtOnce v w k NoPlans start other = Unit {0}
  JointAtOnce v w k (MorePlans p ps) start other =
      Lasting p (Joint v w k p start other × (v (Ended k) ≡ w (Ended k))) × JointAtOnce v w (k + size p) ps start other

-- a part that starts by its own token
abbrev pub JointLater : (v w : Tokens) → ℕ → Plan → Type 0
JointLater v w k p = Lasting p (Joint v w k p (v (Starting k)) (w (Starting k)))

-- what is so unless the part takes no row
unless_same : (p : Plan) (x y : Bool) → (is_over p ≡ false → x ≡ y) → unless_over p x ≡ unless_over p y
unless_same p x y f = by (is_over p) f
  where
    by : (b : Bool) → (b ≡ false → x ≡ y) → (if b then false else x) ≡ (if b then false else y)
    by true g = refl
    by false g = g refl

-- a test with two outcomes, the second of which is known where it fails
second_same : (b x x' y y' : Bool) → (b ≡ true → x ≡ x') → (b ≡ false → y ≡ y') → (if b then x else y) ≡ (if b then x' else y')
second_same true x x' y y' f g = f refl
second_same false x x' y y' f g = g refl

match_same : (b : Bool) (P P' Q Q' : Type 0) → (b ≡ true → P → P') → (b ≡ false → Q → Q') → MatchBool b P Q → MatchBool b P' Q'
match_same true P P' Q Q' f g h = f refl h
match_same false P P' Q Q' f g h = g refl h

module _ (v w : Tokens) (s : Sight) where
  lasts : (p : Plan) (fact : Type 0) → Lasting p fact → is_over p ≡ false → fact
  lasts p fact h more = of_false (is_over p) (Unit {0}) fact more h

  -- ---- what ends

  later_same : (k : ℕ) (p : Plan) → (Joint v w k p (v (Starting k)) (w (Starting k)) → ends v s k p (v (Starting k)) ≡ ends w s k p (w (Starting k)))
      → JointLater v w k p → ends_later v s k p ≡ ends_later w s k p
  later_same k p f joint =
      unless_same p (ends v s k p (v (Starting k))) (ends w s k p (w (Starting k)))
      (λ more. f (lasts p (Joint v w k p (v (Starting k)) (w (Starting k))) joint more))

  one_ended : (k : ℕ) (p : Plan) (start other : Bool) → (Joint v w k p start other → ends v s k p start ≡ ends w s k p other)
      → Lasting p (Joint v w k p start other × (v (Ended k) ≡ w (Ended k)))
      → ((is_over p || ends v s k p start) || v (Ended k)) ≡ ((is_over p || ends w s k p other) || w (Ended k))
  one_ended k p start other f joint = elim (cases_Bool (is_over p)) [
    | inl over ↦ ap (λ b. (b || ends v s k p start) || v (Ended k)) over ∙ sym (ap (λ b. (b || ends w s k p other) || w (Ended k)) over)
    | inr more ↦
        let here : Joint v w k p start other × (v (Ended k) ≡ w (Ended k)) = lasts p (Joint v w k p start other × (v (Ended k) ≡ w (Ended k))) joint more in
        or_same _ _ _ _ (ap (λ x. is_over p || x) (f here.0)) here.1
  ]

  mutual
    pub same_ends : (k : ℕ) (p : Plan) (start other : Bool) → Joint v w k p start other → ends v s k p start ≡ ends w s k p other
    same_ends k (Enables actor) start other joint = ap (λ x. x && s.done actor) joint
    same_ends k (InTurn ps) start other joint = same_in_turn (k + 1) ps start other joint
    same_ends k (AtOnce ps) start other joint = same_at_once (k + 1) ps start other joint
    same_ends k (Chooses port by on off) start other joint =
        or_same _ _ _ _
        (or_same _ _ _ _ (ap (λ x. x && (if s.reads port then is_over on else is_over off)) joint.0) (later_same (k + 1) on (λ j. same_ends (k + 1) on (v (Starting (k + 1))) (w (Starting (k + 1))) j) joint.1))
        (later_same (k + 1 + size on) off (λ j. same_ends (k + 1 + size on) off (v (Starting (k + 1 + size on))) (w (Starting (k + 1 + size on))) j) joint.2)
    same_ends k (Repeats port by body) start other joint = ap (λ x. x && not (s.reads port)) joint.0

    same_in_turn : (k : ℕ) (ps : Plans) (start other : Bool) → JointInTurn v w k ps start other → ends_in_turn v s k ps start ≡ ends_in_turn w s k ps other
    same_in_turn k NoPlans start other joint = refl
    same_in_turn k (MorePlans p ps) start other joint =
        let P = JointInTurn v w (k + size p) ps start other in
        let Q = Joint v w k p start other × JointAfter v w (k + size p) ps in
        second_same (is_over p) _ _ _ _
        (λ over. same_in_turn (k + size p) ps start other (of_true (is_over p) P Q over joint))
        (λ more.
        let here : Joint v w k p start other × JointAfter v w (k + size p) ps = of_false (is_over p) P Q more joint in
        second_same (are_over ps) _ _ _ _ (λ none. same_ends k p start other here.0) (λ some. same_last (k + size p) ps here.1))

    same_last : (k : ℕ) (ps : Plans) → JointAfter v w k ps → the_last_ends v s k ps ≡ the_last_ends w s k ps
    same_last k NoPlans joint = refl
    same_last k (MorePlans p ps) joint =
        second_same (are_over ps) _ _ _ _ (λ none. later_same k p (λ j. same_ends k p (v (Starting k)) (w (Starting k)) j) joint.0) (λ some. same_last (k + size p) ps joint.1)

    pub same_at_once : (k : ℕ) (ps : Plans) (start other : Bool) → JointAtOnce v w k ps start other → have_ended v s k ps start ≡ have_ended w s k ps other
    same_at_once k NoPlans start other joint = refl
    same_at_once k (MorePlans p ps) start other joint =
        and_same _ _ _ _ (one_ended k p start other (λ j. same_ends k p start other j) joint.0) (same_at_once (k + size p) ps start other joint.1)

  pub same_later : (k : ℕ) (p : Plan) → JointLater v w k p → ends_later v s k p ≡ ends_later w s k p
  same_later k p joint = later_same k p (λ j. same_ends k p (v (Starting k)) (w (Starting k)) j) joint

  -- ---- what acts

  module _ (actor : Actor) where
    later_enables : (k : ℕ) (p : Plan) → (Joint v w k p (v (Starting k)) (w (Starting k)) → enables_by v k p (v (Starting k)) actor ≡ enables_by w k p (w (Starting k)) actor)
        → JointLater v w k p → unless_over p (enables_by v k p (v (Starting k)) actor) ≡ unless_over p (enables_by w k p (w (Starting k)) actor)
    later_enables k p f joint = unless_same p _ _ (λ more. f (lasts p (Joint v w k p (v (Starting k)) (w (Starting k))) joint more))

    mutual
      pub same_enables : (k : ℕ) (p : Plan) (start other : Bool) → Joint v w k p start other → enables_by v k p start actor ≡ enables_by w k p other actor
      same_enables k (Enables one) start other joint = ap (λ x. x && same_actor one actor) joint
      same_enables k (InTurn ps) start other joint = enables_from (k + 1) ps start other joint
      same_enables k (AtOnce ps) start other joint = enables_at_once (k + 1) ps start other joint
      same_enables k (Chooses port by on off) start other joint =
          or_same _ _ _ _ (later_enables (k + 1) on (λ j. same_enables (k + 1) on (v (Starting (k + 1))) (w (Starting (k + 1))) j) joint.1)
          (later_enables (k + 1 + size on) off (λ j. same_enables (k + 1 + size on) off (v (Starting (k + 1 + size on))) (w (Starting (k + 1 + size on))) j) joint.2)
      same_enables k (Repeats port by body) start other joint =
          later_enables (k + 1) body (λ j. same_enables (k + 1) body (v (Starting (k + 1))) (w (Starting (k + 1))) j) joint.1

      enables_from : (k : ℕ) (ps : Plans) (start other : Bool) → JointInTurn v w k ps start other
          → enables_by_in_turn v k ps start actor ≡ enables_by_in_turn w k ps other actor
      enables_from k NoPlans start other joint = refl
      enables_from k (MorePlans p ps) start other joint =
          let P = JointInTurn v w (k + size p) ps start other in
          let Q = Joint v w k p start other × JointAfter v w (k + size p) ps in
          second_same (is_over p) _ _ _ _
          (λ over. enables_from (k + size p) ps start other (of_true (is_over p) P Q over joint))
          (λ more.
          let here : Joint v w k p start other × JointAfter v w (k + size p) ps = of_false (is_over p) P Q more joint in
          or_same _ _ _ _ (same_enables k p start other here.0) (enables_after (k + size p) ps here.1))

      enables_after : (k : ℕ) (ps : Plans) → JointAfter v w k ps → others_enable v k ps actor ≡ others_enable w k ps actor
      enables_after k NoPlans joint = refl
      enables_after k (MorePlans p ps) joint = or_same _ _ _ _ (later_enables k p (λ j. same_enables k p (v (Starting k)) (w (Starting k)) j) joint.0) (enables_after (k + size p) ps joint.1)

      enables_at_once : (k : ℕ) (ps : Plans) (start other : Bool) → JointAtOnce v w k ps start other
          → enables_by_at_once v k ps start actor ≡ enables_by_at_once w k ps other actor
      enables_at_once k NoPlans start other joint = refl
      enables_at_once k (MorePlans p ps) start other joint =
          or_same _ _ _ _
          (unless_same p _ _ (λ more. same_enables k p start other (lasts p (Joint v w k p start other × (v (Ended k) ≡ w (Ended k))) joint.0 more).0))
          (enables_at_once (k + size p) ps start other joint.1)

    later_tests : (k : ℕ) (p : Plan) → (Joint v w k p (v (Starting k)) (w (Starting k)) → tests_by v k p (v (Starting k)) actor ≡ tests_by w k p (w (Starting k)) actor)
        → JointLater v w k p → unless_over p (tests_by v k p (v (Starting k)) actor) ≡ unless_over p (tests_by w k p (w (Starting k)) actor)
    later_tests k p f joint = unless_same p _ _ (λ more. f (lasts p (Joint v w k p (v (Starting k)) (w (Starting k))) joint more))

    mutual
      pub same_tests : (k : ℕ) (p : Plan) (start other : Bool) → Joint v w k p start other → tests_by v k p start actor ≡ tests_by w k p other actor
      same_tests k (Enables one) start other joint = refl
      same_tests k (InTurn ps) start other joint = tests_from (k + 1) ps start other joint
      same_tests k (AtOnce ps) start other joint = tests_at_once (k + 1) ps start other joint
      same_tests k (Chooses port by on off) start other joint =
          or_same _ _ _ _ (or_same _ _ _ _ (ap (λ x. x && is_by by actor) joint.0) (later_tests (k + 1) on (λ j. same_tests (k + 1) on (v (Starting (k + 1))) (w (Starting (k + 1))) j) joint.1))
          (later_tests (k + 1 + size on) off (λ j. same_tests (k + 1 + size on) off (v (Starting (k + 1 + size on))) (w (Starting (k + 1 + size on))) j) joint.2)
      same_tests k (Repeats port by body) start other joint =
          or_same _ _ _ _ (ap (λ x. x && is_by by actor) joint.0)
          (later_tests (k + 1) body (λ j. same_tests (k + 1) body (v (Starting (k + 1))) (w (Starting (k + 1))) j) joint.1)

      tests_from : (k : ℕ) (ps : Plans) (start other : Bool) → JointInTurn v w k ps start other
          → tests_by_in_turn v k ps start actor ≡ tests_by_in_turn w k ps other actor
      tests_from k NoPlans start other joint = refl
      tests_from k (MorePlans p ps) start other joint =
          let P = JointInTurn v w (k + size p) ps start other in
          let Q = Joint v w k p start other × JointAfter v w (k + size p) ps in
          second_same (is_over p) _ _ _ _
          (λ over. tests_from (k + size p) ps start other (of_true (is_over p) P Q over joint))
          (λ more.
          let here : Joint v w k p start other × JointAfter v w (k + size p) ps = of_false (is_over p) P Q more joint in
          or_same _ _ _ _ (same_tests k p start other here.0) (tests_after (k + size p) ps here.1))

      tests_after : (k : ℕ) (ps : Plans) → JointAfter v w k ps → others_test v k ps actor ≡ others_test w k ps actor
      tests_after k NoPlans joint = refl
      tests_after k (MorePlans p ps) joint = or_same _ _ _ _ (later_tests k p (λ j. same_tests k p (v (Starting k)) (w (Starting k)) j) joint.0) (tests_after (k + size p) ps joint.1)

      tests_at_once : (k : ℕ) (ps : Plans) (start other : Bool) → JointAtOnce v w k ps start other
          → tests_by_at_once v k ps start actor ≡ tests_by_at_once w k ps other actor
      tests_at_once k NoPlans start other joint = refl
      tests_at_once k (MorePlans p ps) start other joint =
          or_same _ _ _ _
          (unless_same p _ _ (λ more. same_tests k p start other (lasts p (Joint v w k p start other × (v (Ended k) ≡ w (Ended k))) joint.0 more).0))
          (tests_at_once (k + size p) ps start other joint.1)

  -- ---- what comes next

  module _ (next : Tokens) where
    later_steps : (k : ℕ) (p : Plan) (begins others : Bool)
        → (Joint v w k p (v (Starting k)) (w (Starting k)) → Steps w s k p (w (Starting k)) next → Steps v s k p (v (Starting k)) next)
        → begins ≡ others → JointLater v w k p → StepsLater w s k p others next → StepsLater v s k p begins next
    later_steps k p begins others f same joint steps =
        match_same (is_over p) (Unit {0}) (Unit {0}) ((next (Starting k) ≡ others) × Steps w s k p (w (Starting k)) next)
        ((next (Starting k) ≡ begins) × Steps v s k p (v (Starting k)) next) (λ over h. h)
        (λ more h. (h.0 ∙ sym same, f (lasts p (Joint v w k p (v (Starting k)) (w (Starting k))) joint more) h.1)) steps

    mutual
      pub same_steps : (k : ℕ) (p : Plan) (start other : Bool) → Joint v w k p start other → Steps w s k p other next → Steps v s k p start next
      same_steps k (Enables actor) start other joint steps = steps ∙ sym (ap (λ x. x && not (s.done actor)) joint)
      same_steps k (InTurn ps) start other joint steps = steps_in_turn (k + 1) ps start other joint steps
      same_steps k (AtOnce ps) start other joint steps =
          let S : Bool → Type 0 = λ all. StepAtOnce w s (k + 1) ps other all next in
          steps_at_once (k + 1) ps start other (have_ended v s (k + 1) ps start) joint (subst S (sym (same_at_once (k + 1) ps start other joint)) steps)
      same_steps k (Chooses port by on off) start other joint steps = (
        later_steps (k + 1) on (start && s.reads port) (other && s.reads port)
            (λ j h. same_steps (k + 1) on (v (Starting (k + 1))) (w (Starting (k + 1))) j h) (ap (λ x. x && s.reads port) joint.0) joint.1 steps.0,
        later_steps (k + 1 + size on) off (start && not (s.reads port)) (other && not (s.reads port))
            (λ j h. same_steps (k + 1 + size on) off (v (Starting (k + 1 + size on))) (w (Starting (k + 1 + size on))) j h) (ap (λ x. x && not (s.reads port)) joint.0) joint.2 steps.1,
      )
      same_steps k (Repeats port by body) start other joint steps =
          let tested : (is_tested v k start && s.reads port) ≡ (is_tested w k other && s.reads port) = ap (λ x. x && s.reads port) joint.0 in (
            later_steps (k + 1) body (is_tested v k start && s.reads port) (is_tested w k other && s.reads port)
                (λ j h. same_steps (k + 1) body (v (Starting (k + 1))) (w (Starting (k + 1))) j h) tested joint.1 steps.0,
            steps.1 ∙ sym (second_same (is_over body) _ _ _ _ (λ over. tested) (λ more. same_later (k + 1) body joint.1)),
          )

      steps_in_turn : (k : ℕ) (ps : Plans) (start other : Bool) → JointInTurn v w k ps start other → StepInTurn w s k ps other next → StepInTurn v s k ps start next
      steps_in_turn k NoPlans start other joint steps = tt
      steps_in_turn k (MorePlans p ps) start other joint steps =
          let P = JointInTurn v w (k + size p) ps start other in
          let Q = Joint v w k p start other × JointAfter v w (k + size p) ps in
          match_same (is_over p) (StepInTurn w s (k + size p) ps other next) (StepInTurn v s (k + size p) ps start next)
          (Steps w s k p other next × OthersStep w s (k + size p) ps (ends w s k p other) next)
          (Steps v s k p start next × OthersStep v s (k + size p) ps (ends v s k p start) next)
          (λ over h. steps_in_turn (k + size p) ps start other (of_true (is_over p) P Q over joint) h)
          (λ more h.
          let here : Joint v w k p start other × JointAfter v w (k + size p) ps = of_false (is_over p) P Q more joint in (
            same_steps k p start other here.0 h.0,
            steps_after (k + size p) ps (ends v s k p start) (ends w s k p other) (same_ends k p start other here.0) here.1 h.1,
          )) steps

      steps_after : (k : ℕ) (ps : Plans) (begins others : Bool) → begins ≡ others → JointAfter v w k ps → OthersStep w s k ps others next → OthersStep v s k ps begins next
      steps_after k NoPlans begins others same joint steps = tt
      steps_after k (MorePlans p ps) begins others same joint steps =
          match_same (is_over p) (OthersStep w s (k + size p) ps others next) (OthersStep v s (k + size p) ps begins next)
          (StepsLater w s k p others next × OthersStep w s (k + size p) ps (ends_later w s k p) next)
          (StepsLater v s k p begins next × OthersStep v s (k + size p) ps (ends_later v s k p) next)
          (λ over h. steps_after (k + size p) ps begins others same joint.1 h)
          (λ more h. (
            later_steps k p begins others (λ j h. same_steps k p (v (Starting k)) (w (Starting k)) j h) same joint.0 h.0,
            steps_after (k + size p) ps (ends_later v s k p) (ends_later w s k p) (same_later k p joint.0) joint.1 h.1,
          )) steps

      steps_at_once : (k : ℕ) (ps : Plans) (start other all : Bool) → JointAtOnce v w k ps start other → StepAtOnce w s k ps other all next → StepAtOnce v s k ps start all next
      steps_at_once k NoPlans start other all joint steps = tt
      steps_at_once k (MorePlans p ps) start other all joint steps = (
        match_same (is_over p) (Unit {0}) (Unit {0}) (Steps w s k p other next × (next (Ended k) ≡ ((ends w s k p other || w (Ended k)) && not all)))
            (Steps v s k p start next × (next (Ended k) ≡ ((ends v s k p start || v (Ended k)) && not all))) (λ over h. h)
            (λ more h.
            let here : Joint v w k p start other × (v (Ended k) ≡ w (Ended k)) = lasts p (Joint v w k p start other × (v (Ended k) ≡ w (Ended k))) joint.0 more in (
              same_steps k p start other here.0 h.0,
              h.1 ∙ sym (ap (λ x. x && not all) (or_same _ _ _ _ (same_ends k p start other here.0) here.1)),
            )) steps.0,
        steps_at_once (k + size p) ps start other all joint.1 steps.1,
      )
