-- A loop: a test, at the start or after a turn, starts a turn by the token of the body; the turn's end, or the test where the body takes no row, leads
-- back to the test.
use Rattle.std.proofs.Common.{◌≡◌, ℕ, ◌+◌, Bool, true, false, not, ◌&&◌, Option, refl, sym, ap, subst, inl, inr, ◌∙◌}
use Rattle.std.specs.Prelude.{if◌then◌else◌}
use Rattle.std.proofs.lemmas.Bool.{cases_Bool, both_ways, and_left, and_right, cond-true, cond-false}
use Rattle.cal_ast.specs.Actors.{Actor}
use Rattle.cal_ast.specs.Plan.{Plan, InTurn, Repeats, NoPlans, MorePlans}
use Rattle.cal_ast.specs.Tree.{PortName}
use Rattle.cal_walk.specs.Left.{Sight, is_over, is_by, nothing, left, tests}
use Rattle.cal_token.specs.inside.Coming.{IsOff, Leaves, InBody, AtTest, IsStarting}
use Rattle.cal_token.specs.inside.Laws.{ComesTo, Walks, StaysOff}
use Rattle.cal_token.specs.inside.Tokens.{Tokens, Starting, Again, StepsLater, is_tested, ends_later, tests_later}
use Rattle.cal_token.proofs.FirstLemmas.{BeginsWith, SameRow, begins_in_turn, past_first}
use Rattle.cal_token.proofs.LastingLemmas.{part_lasts, rest_of_part_lasts}
use Rattle.cal_token.proofs.LaterLemmas.{later_walks, later_off}
use Rattle.cal_token.proofs.StartLemmas.{with_none}
use Rattle.cal_token.proofs.TestLemmas.{only_first, only_second, neither}
use Rattle.cal_token.proofs.Walking.{Law, LaterComesTo, LaterWalks, LaterStaysOff}

module _ (v : Tokens) (s : Sight) (k : ℕ) (port : PortName) (by : Option Actor) (body : Plan) where
  abbrev loop : Plan
  loop = Repeats port by body

  -- what is left of a turn, and the loop after it
  abbrev turn_of : Plan → Plan
  turn_of rest = InTurn (MorePlans rest (MorePlans loop NoPlans))

  turn_lasts : (rest : Plan) → is_over (turn_of rest) ≡ false
  turn_lasts rest = and_right (is_over rest) false refl

  turn_goes_on : (b : Bool) → not b ≡ is_over (if b then turn_of body else nothing)
  turn_goes_on true = sym (turn_lasts body)
  turn_goes_on false = refl

  -- whether the loop is tested in the next row
  abbrev again : Bool → Bool
  again turns = if is_over body then turns else ends_later v s (k + 1) body

  -- after a test
  after_test : LaterStaysOff v s (k + 1) body → (w : Tokens) (b : Bool) → StepsLater v s (k + 1) body b w → w (Again k) ≡ again b
      → ComesTo w k loop (if b then turn_of body else nothing)
  after_test stays w true steps token = record {
    ended = λ over. absurd (both_ways (is_over (turn_of body)) (turn_lasts body) over);
    left = λ lasts. elim (cases_Bool (is_over body)) [
      | inl none ↦
          let there : w (Again k) ≡ true = token ∙ cond-true (is_over body) true (ends_later v s (k + 1) body) none in
          AtTest k port by body body there (with_none w (k + 1) body false (IsOff w (k + 1) body) none) none
      | inr more ↦
          let absent : w (Again k) ≡ false = token ∙ cond-false (is_over body) true (ends_later v s (k + 1) body) more ∙ stays.last in
          let start : (w (Starting (k + 1)) ≡ true) × IsOff w (k + 1) body = stays.starts w more steps in
          InBody k port by body body absent (IsStarting (k + 1) body more start.0 start.1)
    ];
  }
  after_test stays w false steps token = record {
    ended = λ over. (token ∙ neither (is_over body) false (ends_later v s (k + 1) body) refl stays.last, stays.next w steps);
    left = λ lasts. absurd (cc);
  }

  testing : (start : Bool) → is_tested v k start ≡ true → LaterStaysOff v s (k + 1) body → Walks v s k loop loop start
  testing start test stays = record {
    enabled = λ actor. stays.enabled actor;
    tested = λ actor. only_first (is_tested v k start && is_by by actor) (tests_later v (k + 1) body actor) (is_by by actor)
        (ap (λ b. b && is_by by actor) test) (stays.tested actor);
    last = ap (λ b. b && not (s.reads port)) test ∙ turn_goes_on (s.reads port);
    next = λ w steps.
        let S : Bool → Type 0 = λ b. StepsLater v s (k + 1) body (b && s.reads port) w in
        let A : Bool → Type 0 = λ b. w (Again k) ≡ again (b && s.reads port) in
        after_test stays w (s.reads port) (subst S test steps.0) (subst A test steps.1);
  }

  -- after a row of a turn
  after_turn : (rest : Plan) → is_over body ≡ false → LaterWalks v s (k + 1) body rest → (w : Tokens) → StepsLater v s (k + 1) body false w
      → w (Again k) ≡ ends_later v s (k + 1) body → ComesTo w k loop (turn_of (left s rest))
  after_turn rest more walks w steps token =
      let comes : LaterComesTo w (k + 1) body (left s rest) = walks.next w steps in
      record {
        ended = λ over. absurd (both_ways (is_over (turn_of (left s rest))) (turn_lasts (left s rest)) over);
        left = λ lasts. elim (cases_Bool (is_over (left s rest))) [
          | inl over ↦ AtTest k port by body (left s rest) (token ∙ walks.last ∙ over) (comes.ended over) over
          | inr goes_on ↦ InBody k port by body (left s rest) (token ∙ walks.last ∙ goes_on) (comes.left goes_on)
        ];
      }

  turning : (rest : Plan) → v (Again k) ≡ false → is_over body ≡ false → is_over rest ≡ false → LaterWalks v s (k + 1) body rest
      → Walks v s k loop (turn_of rest) false
  turning rest not_now more lasts walks =
      let begins : BeginsWith s (turn_of rest) rest (MorePlans loop NoPlans) = begins_in_turn s rest (MorePlans loop NoPlans) lasts in
      record {
        enabled = λ actor. walks.enabled actor ∙ begins.enabled actor;
        tested = λ actor. only_second (v (Again k) && is_by by actor) (tests_later v (k + 1) body actor) (tests (turn_of rest) actor)
            (and_left (v (Again k)) (is_by by actor) not_now) (walks.tested actor ∙ begins.tested actor);
        last = and_left (v (Again k)) (not (s.reads port)) not_now ∙ sym (turn_lasts (left s rest)) ∙ ap (λ q. is_over q) begins.rest;
        next = λ w steps.
            let S : Bool → Type 0 = λ b. StepsLater v s (k + 1) body (b && s.reads port) w in
            let C : Plan → Type 0 = ComesTo w k loop in
            let token : w (Again k) ≡ ends_later v s (k + 1) body =
            steps.1 ∙ cond-false (is_over body) (v (Again k) && s.reads port) (ends_later v s (k + 1) body) more in
            subst C begins.rest (after_turn rest more walks w (subst S not_now steps.0) token);
      }

  resting : v (Again k) ≡ false → LaterStaysOff v s (k + 1) body → StaysOff v s k loop
  resting none stays = record {
    enabled = λ actor. stays.enabled actor;
    tested = λ actor. only_second (v (Again k) && is_by by actor) (tests_later v (k + 1) body actor) false
        (and_left (v (Again k)) (is_by by actor) none) (stays.tested actor);
    last = and_left (v (Again k)) (not (s.reads port)) none;
    next = λ w steps.
        let S : Bool → Type 0 = λ b. StepsLater v s (k + 1) body (b && s.reads port) w in
        let token : again (v (Again k) && s.reads port) ≡ false =
        neither (is_over body) (v (Again k) && s.reads port) (ends_later v s (k + 1) body) (and_left (v (Again k)) (s.reads port) none) stays.last in
        (steps.1 ∙ token, stays.next w (subst S none steps.0));
  }

-- a plan that does the same in the row may be left
as_same : (v : Tokens) (s : Sight) (k : ℕ) (p one other : Plan) (start : Bool) → SameRow s one other → Walks v s k p one start → Walks v s k p other start
as_same v s k p one other start same walks = record {
  enabled = λ actor. walks.enabled actor ∙ same.enabled actor;
  tested = λ actor. walks.tested actor ∙ same.tested actor;
  last = walks.last ∙ ap (λ q. is_over q) same.rest;
  next = λ w steps. let C : Plan → Type 0 = ComesTo w k p in subst C same.rest (walks.next w steps);
}

module _ (v : Tokens) (s : Sight) (port : PortName) (by : Option Actor) (body : Plan) (law : Law v s body) where
  -- the test of a loop is that of the loop after nothing
  same_test : (ended : Plan) → is_over ended ≡ true → SameRow s (Repeats port by body) (InTurn (MorePlans ended (MorePlans (Repeats port by body) NoPlans)))
  same_test ended over =
      let same : SameRow s (InTurn (MorePlans (Repeats port by body) NoPlans)) (InTurn (MorePlans ended (MorePlans (Repeats port by body) NoPlans))) =
      past_first s ended (MorePlans (Repeats port by body) NoPlans) over in
      record { enabled = same.enabled; tested = same.tested; rest = same.rest }

  going_on : (k : ℕ) (rest : Plan) → Leaves v k (Repeats port by body) rest → Walks v s k (Repeats port by body) rest false
  going_on k rest (InBody _ _ _ _ turn not_now leaves) =
      turning v s k port by body turn not_now (part_lasts v (k + 1) body turn leaves) (rest_of_part_lasts v (k + 1) body turn leaves)
      (later_walks v s body law (k + 1) turn leaves)
  going_on k rest (AtTest _ _ _ _ ended now away over) =
      as_same v s k (Repeats port by body) (Repeats port by body) (InTurn (MorePlans ended (MorePlans (Repeats port by body) NoPlans))) false
      (same_test ended over) (testing v s k port by body false now (later_off v s body law (k + 1) away))

  pub loop_law : Law v s (Repeats port by body)
  loop_law = record {
    start = λ k more off. testing v s k port by body true refl (later_off v s body law (k + 1) off.1);
    on = λ k rest more leaves. going_on k rest leaves;
    off = λ k more off. resting v s k port by body off.0 (later_off v s body law (k + 1) off.1);
  }
