-- Plans in turn: the first that takes a row starts with the whole, the others by their own tokens.
use Rattle.std.proofs.Common.{◌≡◌, ℕ, ◌+◌, Bool, true, false, ◌&&◌, ◌||◌, refl, sym, ap, subst, inl, inr, ◌∙◌}
use Rattle.std.specs.Prelude.{if◌then◌else◌}
use Rattle.std.proofs.lemmas.Bool.{cases_Bool, both_ways, cond-true, cond-false}
use Rattle.cal_ast.specs.Actors.{Actor}
use Rattle.cal_ast.specs.Plan.{Plan, InTurn, Plans, NoPlans, MorePlans}
use Rattle.cal_walk.specs.Left.{Sight, is_over, are_over, before_others, left, enables, tests}
use Rattle.cal_token.specs.inside.Coming.{IsOff, FirstIsOff, OthersAreOff, Leaves, InOrder, LeavesInTurn, PastOne, InFirst, InOthers, AfterEnded, FirstStarts}
use Rattle.cal_token.specs.inside.Laws.{ComesTo, Walks, StaysOff}
use Rattle.cal_token.specs.inside.Tokens.{Tokens, Steps, StepInTurn, OthersStep, size}
use Rattle.cal_token.specs.inside.Tokens.{ends, ends_in_turn, the_last_ends, enables_by, enables_by_in_turn, others_enable, tests_by, tests_by_in_turn, others_test}
use Rattle.cal_token.proofs.FirstLemmas.{BeginsWith, SameRow, begins_in_turn, begins_before, past_first}
use Rattle.cal_token.proofs.LastingLemmas.{others_last, rest_lasts}
use Rattle.cal_token.proofs.OverLemmas.{is_over_before, before_lasts, others_remain, others_over}
use Rattle.cal_token.proofs.StartLemmas.{none_on}
use Rattle.cal_token.proofs.TestLemmas.{only_first, only_second, neither, last_of, at_true, at_false, of_true, of_false}
use Rattle.cal_token.proofs.Walking.{Law, OthersComeTo, OthersWalk, OthersStayOff, OthersLaw, ComeInTurnTo, WalkInTurn, StayOffInTurn, InTurnLaw}

-- the first plan
module _ (v : Tokens) (s : Sight) (k : ℕ) (p : Plan) (ps : Plans) where
  abbrev after : ℕ
  after = k + size p

  off_past : (w : Tokens) → is_over p ≡ true → FirstIsOff w after ps → FirstIsOff w k (MorePlans p ps)
  off_past w over off = at_true (is_over p) (FirstIsOff w after ps) (IsOff w k p × OthersAreOff w after ps) over off

  off_here : (w : Tokens) → is_over p ≡ false → IsOff w k p → OthersAreOff w after ps → FirstIsOff w k (MorePlans p ps)
  off_here w more off away = at_false (is_over p) (FirstIsOff w after ps) (IsOff w k p × OthersAreOff w after ps) more (off, away)

  past_off : is_over p ≡ true → FirstIsOff v k (MorePlans p ps) → FirstIsOff v after ps
  past_off over off = of_true (is_over p) (FirstIsOff v after ps) (IsOff v k p × OthersAreOff v after ps) over off

  here_off : is_over p ≡ false → FirstIsOff v k (MorePlans p ps) → IsOff v k p × OthersAreOff v after ps
  here_off more off = of_false (is_over p) (FirstIsOff v after ps) (IsOff v k p × OthersAreOff v after ps) more off

  step_past : (start : Bool) (w : Tokens) → is_over p ≡ true → StepInTurn v s k (MorePlans p ps) start w → StepInTurn v s after ps start w
  step_past start w over steps =
      of_true (is_over p) (StepInTurn v s after ps start w) (Steps v s k p start w × OthersStep v s after ps (ends v s k p start) w) over steps

  step_of : (start : Bool) (w : Tokens) → is_over p ≡ false → StepInTurn v s k (MorePlans p ps) start w
      → Steps v s k p start w × OthersStep v s after ps (ends v s k p start) w
  step_of start w more steps =
      of_false (is_over p) (StepInTurn v s after ps start w) (Steps v s k p start w × OthersStep v s after ps (ends v s k p start) w) more steps

  step_with : (start : Bool) (w : Tokens) (over : Bool) → ends v s k p start ≡ over → OthersStep v s after ps (ends v s k p start) w → OthersStep v s after ps over w
  step_with start w over is steps = let S : Bool → Type 0 = λ b. OthersStep v s after ps b w in subst S is steps

  -- what acts, and whether the last ends, where the first takes no row, or takes one
  enables_past : (start : Bool) (actor : Actor) → is_over p ≡ true → enables_by_in_turn v k (MorePlans p ps) start actor ≡ enables_by_in_turn v after ps start actor
  enables_past start actor over =
      cond-true (is_over p) (enables_by_in_turn v after ps start actor) (enables_by v k p start actor || others_enable v after ps actor) over

  enables_here : (start : Bool) (actor : Actor) → is_over p ≡ false
      → enables_by_in_turn v k (MorePlans p ps) start actor ≡ (enables_by v k p start actor || others_enable v after ps actor)
  enables_here start actor more =
      cond-false (is_over p) (enables_by_in_turn v after ps start actor) (enables_by v k p start actor || others_enable v after ps actor) more

  tests_past : (start : Bool) (actor : Actor) → is_over p ≡ true → tests_by_in_turn v k (MorePlans p ps) start actor ≡ tests_by_in_turn v after ps start actor
  tests_past start actor over =
      cond-true (is_over p) (tests_by_in_turn v after ps start actor) (tests_by v k p start actor || others_test v after ps actor) over

  tests_here : (start : Bool) (actor : Actor) → is_over p ≡ false
      → tests_by_in_turn v k (MorePlans p ps) start actor ≡ (tests_by v k p start actor || others_test v after ps actor)
  tests_here start actor more =
      cond-false (is_over p) (tests_by_in_turn v after ps start actor) (tests_by v k p start actor || others_test v after ps actor) more

  ends_past : (start : Bool) → is_over p ≡ true → ends_in_turn v s k (MorePlans p ps) start ≡ ends_in_turn v s after ps start
  ends_past start over =
      cond-true (is_over p) (ends_in_turn v s after ps start) (if are_over ps then ends v s k p start else the_last_ends v s after ps) over

  ends_here : (start : Bool) → is_over p ≡ false
      → ends_in_turn v s k (MorePlans p ps) start ≡ (if are_over ps then ends v s k p start else the_last_ends v s after ps)
  ends_here start more =
      cond-false (is_over p) (ends_in_turn v s after ps start) (if are_over ps then ends v s k p start else the_last_ends v s after ps) more

  -- the first takes no row
  past : (rest : Plan) (start : Bool) → is_over p ≡ true → WalkInTurn v s after ps rest start → WalkInTurn v s k (MorePlans p ps) rest start
  past rest start over walk = record {
    enabled = λ actor. enables_past start actor over ∙ walk.enabled actor;
    tested = λ actor. tests_past start actor over ∙ walk.tested actor;
    last = ends_past start over ∙ walk.last;
    next = λ w steps.
        let come : ComeInTurnTo w after ps (left s rest) = walk.next w (step_past start w over steps) in
        record { ended = λ all. off_past w over (come.ended all); left = λ lasts. PastOne k p ps (left s rest) over (come.left lasts) };
  }

  -- the first starts or is on, and ends or goes on
  comes_here : (w : Tokens) (rest : Plan) (start : Bool) → is_over p ≡ false → Walks v s k p rest start → OthersStayOff v s after ps
      → StepInTurn v s k (MorePlans p ps) start w → ComeInTurnTo w k (MorePlans p ps) (before_others (left s rest) ps)
  comes_here w rest start more walks stay steps =
      let parts : Steps v s k p start w × OthersStep v s after ps (ends v s k p start) w = step_of start w more steps in
      let comes : ComesTo w k p (left s rest) = walks.next w parts.0 in
      elim (cases_Bool (is_over (left s rest))) [
        | inl over ↦ record {
          ended = λ all. off_here w more (comes.ended over) (none_on w after ps (others_over (left s rest) ps all));
          left = λ lasts.
              let begin : FirstStarts w after ps =
              stay.starts w (others_remain (left s rest) ps over lasts) (step_with start w true (walks.last ∙ over) parts.1) in
              InOthers k p ps (before_others (left s rest) ps) more (comes.ended over) (AfterEnded after ps (left s rest) over begin);
        }
        | inr lasts ↦ record {
          ended = λ all. absurd (both_ways (is_over (before_others (left s rest) ps)) (before_lasts (left s rest) ps lasts) all);
          left = λ more'. InFirst k p ps (left s rest) more (comes.left lasts) (stay.next w (step_with start w false (walks.last ∙ lasts) parts.1));
        }
      ]

  here : (whole rest : Plan) (start : Bool) → is_over p ≡ false → Walks v s k p rest start → OthersStayOff v s after ps → BeginsWith s whole rest ps
      → WalkInTurn v s k (MorePlans p ps) whole start
  here whole rest start more walks stay begins = record {
    enabled = λ actor. enables_here start actor more
        ∙ only_first (enables_by v k p start actor) (others_enable v after ps actor) (enables whole actor)
        (walks.enabled actor ∙ begins.enabled actor) (stay.enabled actor);
    tested = λ actor. tests_here start actor more
        ∙ only_first (tests_by v k p start actor) (others_test v after ps actor) (tests whole actor)
        (walks.tested actor ∙ begins.tested actor) (stay.tested actor);
    last = ends_here start more
        ∙ last_of (are_over ps) (ends v s k p start) (the_last_ends v s after ps) (is_over (left s rest)) walks.last stay.last
        ∙ sym (is_over_before (left s rest) ps) ∙ ap (λ q. is_over q) begins.rest;
    next = λ w steps.
        let C : Plan → Type 0 = ComeInTurnTo w k (MorePlans p ps) in subst C begins.rest (comes_here w rest start more walks stay steps);
  }

  -- the first has ended, and one of the others is on
  later : (rest : Plan) → is_over p ≡ false → are_over ps ≡ false → StaysOff v s k p → OthersWalk v s after ps rest
      → WalkInTurn v s k (MorePlans p ps) rest false
  later rest more lasts stays walk = record {
    enabled = λ actor. enables_here false actor more
        ∙ only_second (enables_by v k p false actor) (others_enable v after ps actor) (enables rest actor) (stays.enabled actor) (walk.enabled actor);
    tested = λ actor. tests_here false actor more
        ∙ only_second (tests_by v k p false actor) (others_test v after ps actor) (tests rest actor) (stays.tested actor) (walk.tested actor);
    last = ends_here false more ∙ cond-false (are_over ps) (ends v s k p false) (the_last_ends v s after ps) lasts ∙ walk.last;
    next = λ w steps.
        let parts : Steps v s k p false w × OthersStep v s after ps (ends v s k p false) w = step_of false w more steps in
        let off : IsOff w k p = stays.next w parts.0 in
        let come : OthersComeTo w after ps (left s rest) = walk.next w (step_with false w false stays.last parts.1) in
        record { ended = λ over. off_here w more off (come.ended over); left = λ more'. InOthers k p ps (left s rest) more off (come.left more') };
  }

  off_after : is_over p ≡ true → StayOffInTurn v s after ps → StayOffInTurn v s k (MorePlans p ps)
  off_after over stay = record {
    enabled = λ actor. enables_past false actor over ∙ stay.enabled actor;
    tested = λ actor. tests_past false actor over ∙ stay.tested actor;
    last = ends_past false over ∙ stay.last;
    next = λ w steps. off_past w over (stay.next w (step_past false w over steps));
  }

  all_off : is_over p ≡ false → StaysOff v s k p → OthersStayOff v s after ps → StayOffInTurn v s k (MorePlans p ps)
  all_off more stays stay = record {
    enabled = λ actor. enables_here false actor more
        ∙ only_second (enables_by v k p false actor) (others_enable v after ps actor) false (stays.enabled actor) (stay.enabled actor);
    tested = λ actor. tests_here false actor more
        ∙ only_second (tests_by v k p false actor) (others_test v after ps actor) false (stays.tested actor) (stay.tested actor);
    last = ends_here false more ∙ neither (are_over ps) (ends v s k p false) (the_last_ends v s after ps) stays.last stay.last;
    next = λ w steps.
        let parts : Steps v s k p false w × OthersStep v s after ps (ends v s k p false) w = step_of false w more steps in
        off_here w more (stays.next w parts.0) (stay.next w (step_with false w false stays.last parts.1));
  }

-- a plan that does the same in the row may be left
as_same : (v : Tokens) (s : Sight) (k : ℕ) (ps : Plans) (one other : Plan) (start : Bool) → SameRow s one other → WalkInTurn v s k ps one start
    → WalkInTurn v s k ps other start
as_same v s k ps one other start same walk = record {
  enabled = λ actor. walk.enabled actor ∙ same.enabled actor;
  tested = λ actor. walk.tested actor ∙ same.tested actor;
  last = walk.last ∙ ap (λ q. is_over q) same.rest;
  next = λ w steps. let C : Plan → Type 0 = ComeInTurnTo w k ps in subst C same.rest (walk.next w steps);
}

module _ (v : Tokens) (s : Sight) (p : Plan) (ps : Plans) (law : Law v s p) (others : OthersLaw v s ps) (turns : InTurnLaw v s ps) where
  start : (k : ℕ) → are_over (MorePlans p ps) ≡ false → FirstIsOff v k (MorePlans p ps)
      → WalkInTurn v s k (MorePlans p ps) (InTurn (MorePlans p ps)) true
  start k more off = elim (cases_Bool (is_over p)) [
    | inl over ↦
        let lasts : are_over ps ≡ false = sym (ap (λ b. b && are_over ps) over) ∙ more in
        as_same v s k (MorePlans p ps) (InTurn ps) (InTurn (MorePlans p ps)) true (past_first s p ps over)
        (past v s k p ps (InTurn ps) true over (turns.start (k + size p) lasts (past_off v s k p ps over off)))
    | inr lasts ↦
        let parts : IsOff v k p × OthersAreOff v (k + size p) ps = here_off v s k p ps lasts off in
        here v s k p ps (InTurn (MorePlans p ps)) p true lasts (law.start k lasts parts.0) (others.off (k + size p) parts.1) (begins_in_turn s p ps lasts)
  ]

  go_on : (k : ℕ) (rest : Plan) → LeavesInTurn v k (MorePlans p ps) rest → WalkInTurn v s k (MorePlans p ps) rest false
  go_on k rest (PastOne _ _ _ _ over leaves) = past v s k p ps rest false over (turns.on (k + size p) rest leaves)
  go_on k rest (InFirst _ _ _ first more leaves away) =
      here v s k p ps (before_others first ps) first false more (law.on k first more leaves) (others.off (k + size p) away)
      (begins_before s first ps (rest_lasts v k p first leaves))
  go_on k rest (InOthers _ _ _ _ more off leave) =
      later v s k p ps rest more (others_last v (k + size p) ps rest leave) (law.off k more off) (others.on (k + size p) rest leave)

  rests : (k : ℕ) → FirstIsOff v k (MorePlans p ps) → StayOffInTurn v s k (MorePlans p ps)
  rests k off = elim (cases_Bool (is_over p)) [
    | inl over ↦ off_after v s k p ps over (turns.off (k + size p) (past_off v s k p ps over off))
    | inr lasts ↦
        let parts : IsOff v k p × OthersAreOff v (k + size p) ps = here_off v s k p ps lasts off in
        all_off v s k p ps lasts (law.off k lasts parts.0) (others.off (k + size p) parts.1)
  ]

  pub more_in_turn : InTurnLaw v s (MorePlans p ps)
  more_in_turn = record { start = start; on = go_on; off = rests }

module _ (v : Tokens) (s : Sight) where
  pub none_in_turn : InTurnLaw v s NoPlans
  none_in_turn = record {
    start = λ k more off. absurd (cc);
    on = λ k rest leaves. elim leaves [ ];
    off = λ k off. record { enabled = λ actor. refl; tested = λ actor. refl; last = refl; next = λ w steps. tt };
  }

-- ---- the plan of them

module _ (v : Tokens) (s : Sight) (ps : Plans) where
  walks_of : (k : ℕ) (rest : Plan) (start : Bool) → WalkInTurn v s (k + 1) ps rest start → Walks v s k (InTurn ps) rest start
  walks_of k rest start walk = record {
    enabled = walk.enabled;
    tested = walk.tested;
    last = walk.last;
    next = λ w steps.
        let come : ComeInTurnTo w (k + 1) ps (left s rest) = walk.next w steps in
        record { ended = come.ended; left = λ lasts. InOrder k ps (left s rest) (come.left lasts) };
  }

  module _ (turns : InTurnLaw v s ps) where
    on_in_turn : (k : ℕ) (rest : Plan) → Leaves v k (InTurn ps) rest → Walks v s k (InTurn ps) rest false
    on_in_turn k rest (InOrder _ _ _ leaves) = walks_of k rest false (turns.on (k + 1) rest leaves)

    off_in_turn : (k : ℕ) → IsOff v k (InTurn ps) → StaysOff v s k (InTurn ps)
    off_in_turn k off =
        let stay : StayOffInTurn v s (k + 1) ps = turns.off (k + 1) off in
        record { enabled = stay.enabled; tested = stay.tested; last = stay.last; next = stay.next }

    pub in_turn_law : Law v s (InTurn ps)
    in_turn_law = record {
      start = λ k more off. walks_of k (InTurn ps) true (turns.start (k + 1) more off);
      on = λ k rest more leaves. on_in_turn k rest leaves;
      off = λ k more off. off_in_turn k off;
    }
