-- Plans in turn that start by their own tokens: one of them is on or starts in the row, or none is there.
use Rattle.std.proofs.Common.{◌≡◌, ℕ, ◌+◌, Bool, true, false, ◌&&◌, refl, sym, ap, subst, inl, inr, ◌∙◌}
use Rattle.std.proofs.lemmas.Bool.{cases_Bool, both_ways, cond-false}
use Rattle.cal_ast.specs.Plan.{Plan, InTurn, Plans, NoPlans, MorePlans}
use Rattle.cal_walk.specs.Left.{Sight, is_over, are_over, before_others, left, enables, tests}
use Rattle.cal_token.specs.inside.Coming.{IsOff, IsLaterOff, IsStarting, LeaveOthers, Here, AfterEnded, Later, FirstStarts, Over, ByToken}
use Rattle.cal_token.specs.inside.Tokens.{Tokens, Starting, StepsLater, OthersStep, size}
use Rattle.cal_token.specs.inside.Tokens.{ends_later, the_last_ends, enables_later, others_enable, tests_later, others_test}
use Rattle.cal_token.proofs.FirstLemmas.{BeginsWith, SameRow, begins_in_turn, begins_before, past_first}
use Rattle.cal_token.proofs.LastingLemmas.{first_lasts, others_last, part_lasts, rest_of_part_lasts}
use Rattle.cal_token.proofs.LaterLemmas.{later_walks, later_off}
use Rattle.cal_token.proofs.OverLemmas.{is_over_before, before_lasts, others_remain, others_over}
use Rattle.cal_token.proofs.StartLemmas.{with_none, none_on}
use Rattle.cal_token.proofs.TestLemmas.{only_first, only_second, neither, last_of, of_true, of_false}
use Rattle.cal_token.proofs.Walking.{Law, LaterComesTo, LaterWalks, LaterStaysOff, OthersComeTo, OthersWalk, OthersStayOff, OthersLaw}

-- the first plan
module _ (v : Tokens) (s : Sight) (k : ℕ) (p : Plan) (ps : Plans) where
  abbrev after : ℕ
  after = k + size p

  step_past : (next : Bool) (w : Tokens) → is_over p ≡ true → OthersStep v s k (MorePlans p ps) next w → OthersStep v s after ps next w
  step_past next w over steps =
      of_true (is_over p) (OthersStep v s after ps next w) (StepsLater v s k p next w × OthersStep v s after ps (ends_later v s k p) w) over steps

  step_of : (next : Bool) (w : Tokens) → is_over p ≡ false → OthersStep v s k (MorePlans p ps) next w
      → StepsLater v s k p next w × OthersStep v s after ps (ends_later v s k p) w
  step_of next w more steps =
      of_false (is_over p) (OthersStep v s after ps next w) (StepsLater v s k p next w × OthersStep v s after ps (ends_later v s k p) w) more steps

  step_with : (w : Tokens) (ends : Bool) → ends_later v s k p ≡ ends → OthersStep v s after ps (ends_later v s k p) w → OthersStep v s after ps ends w
  step_with w ends is steps = let S : Bool → Type 0 = λ b. OthersStep v s after ps b w in subst S is steps

  -- where the first isn't on, it stays off, and the others step
  step_off : LaterStaysOff v s k p → (w : Tokens) → OthersStep v s k (MorePlans p ps) false w → IsLaterOff w k p × OthersStep v s after ps false w
  step_off stays w steps = elim (cases_Bool (is_over p)) [
    | inl over ↦ (with_none w k p false (IsOff w k p) over, step_past false w over steps)
    | inr more ↦
        let parts : StepsLater v s k p false w × OthersStep v s after ps (ends_later v s k p) w = step_of false w more steps in
        (stays.next w parts.0, step_with w false stays.last parts.1)
  ]

  -- the first is on, and ends or goes on
  comes_here : (w : Tokens) (rest : Plan) → is_over p ≡ false → LaterWalks v s k p rest → OthersStayOff v s after ps
      → OthersStep v s k (MorePlans p ps) false w → OthersComeTo w k (MorePlans p ps) (before_others (left s rest) ps)
  comes_here w rest more walks stay steps =
      let parts : StepsLater v s k p false w × OthersStep v s after ps (ends_later v s k p) w = step_of false w more steps in
      let comes : LaterComesTo w k p (left s rest) = walks.next w parts.0 in
      elim (cases_Bool (is_over (left s rest))) [
        | inl over ↦ record {
          ended = λ all. (comes.ended over, none_on w after ps (others_over (left s rest) ps all));
          left = λ lasts.
              let start : FirstStarts w after ps = stay.starts w (others_remain (left s rest) ps over lasts) (step_with w true (walks.last ∙ over) parts.1) in
              Later k p ps (before_others (left s rest) ps) (comes.ended over) (AfterEnded after ps (left s rest) over start);
        }
        | inr lasts ↦ record {
          ended = λ all. absurd (both_ways (is_over (before_others (left s rest) ps)) (before_lasts (left s rest) ps lasts) all);
          left = λ more'. Here k p ps (left s rest) (comes.left lasts) (stay.next w (step_with w false (walks.last ∙ lasts) parts.1));
        }
      ]

  here : (whole rest : Plan) → is_over p ≡ false → LaterWalks v s k p rest → OthersStayOff v s after ps → BeginsWith s whole rest ps
      → OthersWalk v s k (MorePlans p ps) whole
  here whole rest more walks stay begins = record {
    enabled = λ actor. only_first (enables_later v k p actor) (others_enable v after ps actor) (enables whole actor)
        (walks.enabled actor ∙ begins.enabled actor) (stay.enabled actor);
    tested = λ actor. only_first (tests_later v k p actor) (others_test v after ps actor) (tests whole actor)
        (walks.tested actor ∙ begins.tested actor) (stay.tested actor);
    last = last_of (are_over ps) (ends_later v s k p) (the_last_ends v s after ps) (is_over (left s rest)) walks.last stay.last
        ∙ sym (is_over_before (left s rest) ps) ∙ ap (λ q. is_over q) begins.rest;
    next = λ w steps. let C : Plan → Type 0 = OthersComeTo w k (MorePlans p ps) in subst C begins.rest (comes_here w rest more walks stay steps);
  }

  -- one of the others is on
  past : (rest : Plan) → are_over ps ≡ false → LaterStaysOff v s k p → OthersWalk v s after ps rest → OthersWalk v s k (MorePlans p ps) rest
  past rest more stays walk = record {
    enabled = λ actor. only_second (enables_later v k p actor) (others_enable v after ps actor) (enables rest actor) (stays.enabled actor) (walk.enabled actor);
    tested = λ actor. only_second (tests_later v k p actor) (others_test v after ps actor) (tests rest actor) (stays.tested actor) (walk.tested actor);
    last = cond-false (are_over ps) (ends_later v s k p) (the_last_ends v s after ps) more ∙ walk.last;
    next = λ w steps.
        let parts : IsLaterOff w k p × OthersStep v s after ps false w = step_off stays w steps in
        let come : OthersComeTo w after ps (left s rest) = walk.next w parts.1 in
        record { ended = λ over. (parts.0, come.ended over); left = λ lasts. Later k p ps (left s rest) parts.0 (come.left lasts) };
  }

  starting : (w : Tokens) → LaterStaysOff v s k p → OthersStayOff v s after ps → are_over (MorePlans p ps) ≡ false
      → OthersStep v s k (MorePlans p ps) true w → FirstStarts w k (MorePlans p ps)
  starting w stays stay more steps = elim (cases_Bool (is_over p)) [
    | inl over ↦ Over k p ps over (stay.starts w (sym (ap (λ b. b && are_over ps) over) ∙ more) (step_past true w over steps))
    | inr lasts ↦
        let parts : StepsLater v s k p true w × OthersStep v s after ps (ends_later v s k p) w = step_of true w lasts steps in
        let start : (w (Starting k) ≡ true) × IsOff w k p = stays.starts w lasts parts.0 in
        ByToken k p ps lasts start.0 start.1 (stay.next w (step_with w false stays.last parts.1))
  ]

  all_off : LaterStaysOff v s k p → OthersStayOff v s after ps → OthersStayOff v s k (MorePlans p ps)
  all_off stays stay = record {
    enabled = λ actor. only_second (enables_later v k p actor) (others_enable v after ps actor) false (stays.enabled actor) (stay.enabled actor);
    tested = λ actor. only_second (tests_later v k p actor) (others_test v after ps actor) false (stays.tested actor) (stay.tested actor);
    last = neither (are_over ps) (ends_later v s k p) (the_last_ends v s after ps) stays.last stay.last;
    next = λ w steps. let parts : IsLaterOff w k p × OthersStep v s after ps false w = step_off stays w steps in (parts.0, stay.next w parts.1);
    starts = λ w more steps. starting w stays stay more steps;
  }

-- a plan that does the same in the row may be left
as_same : (v : Tokens) (s : Sight) (k : ℕ) (ps : Plans) (one other : Plan) → SameRow s one other → OthersWalk v s k ps one → OthersWalk v s k ps other
as_same v s k ps one other same walk = record {
  enabled = λ actor. walk.enabled actor ∙ same.enabled actor;
  tested = λ actor. walk.tested actor ∙ same.tested actor;
  last = walk.last ∙ ap (λ q. is_over q) same.rest;
  next = λ w steps. let C : Plan → Type 0 = OthersComeTo w k ps in subst C same.rest (walk.next w steps);
}

module _ (v : Tokens) (s : Sight) (p : Plan) (ps : Plans) (law : Law v s p) (others : OthersLaw v s ps) where
  start_first : (k : ℕ) → FirstStarts v k (MorePlans p ps) → OthersWalk v s k (MorePlans p ps) (InTurn (MorePlans p ps))
  start_first k (Over _ _ _ over first) =
      let walk : OthersWalk v s (k + size p) ps (InTurn ps) = others.start (k + size p) first in
      let stays : LaterStaysOff v s k p = later_off v s p law k (with_none v k p false (IsOff v k p) over) in
      as_same v s k (MorePlans p ps) (InTurn ps) (InTurn (MorePlans p ps)) (past_first s p ps over)
      (past v s k p ps (InTurn ps) (first_lasts v (k + size p) ps first) stays walk)
  start_first k (ByToken _ _ _ more starts off away) =
      here v s k p ps (InTurn (MorePlans p ps)) p more (later_walks v s p law k p (IsStarting k p more starts off)) (others.off (k + size p) away)
      (begins_in_turn s p ps more)

  go_on : (k : ℕ) (rest : Plan) → LeaveOthers v k (MorePlans p ps) rest → OthersWalk v s k (MorePlans p ps) rest
  go_on k rest (Here _ _ _ first leaves away) =
      here v s k p ps (before_others first ps) first (part_lasts v k p first leaves) (later_walks v s p law k first leaves) (others.off (k + size p) away)
      (begins_before s first ps (rest_of_part_lasts v k p first leaves))
  go_on k rest (AfterEnded _ _ ended over first) =
      as_same v s k (MorePlans p ps) (InTurn (MorePlans p ps)) (before_others ended (MorePlans p ps)) (past_first s ended (MorePlans p ps) over)
      (start_first k first)
  go_on k rest (Later _ _ _ _ off leave) =
      past v s k p ps rest (others_last v (k + size p) ps rest leave) (later_off v s p law k off) (others.on (k + size p) rest leave)

  pub more_others : OthersLaw v s (MorePlans p ps)
  more_others = record {
    start = start_first;
    on = go_on;
    off = λ k off. all_off v s k p ps (later_off v s p law k off.0) (others.off (k + size p) off.1);
  }

module _ (v : Tokens) (s : Sight) where
  none_left : (k : ℕ) (rest : Plan) → LeaveOthers v k NoPlans rest → OthersWalk v s k NoPlans rest
  none_left k rest (AfterEnded _ _ ended over first) = elim first [ ]

  pub no_others : OthersLaw v s NoPlans
  no_others = record {
    start = λ k first. elim first [ ];
    on = none_left;
    off = λ k off. record {
      enabled = λ actor. refl;
      tested = λ actor. refl;
      last = refl;
      next = λ w steps. tt;
      starts = λ w more steps. absurd (cc);
    };
  }
