-- Plans at once: each starts with the whole, and its token stays where it has ended before the others.
use Rattle.std.proofs.Common.{◌≡◌, ℕ, ◌+◌, Bool, true, false, not, ◌&&◌, ◌||◌, refl, sym, subst, inl, inr, ◌∙◌}
use Rattle.std.proofs.lemmas.Bool.{cases_Bool, and_parts, and_from, and_left, and_right, or_from, or_left, or_right, cond-true, cond-false}
use Rattle.cal_ast.specs.Plan.{Plan, AtOnce, Plans, NoPlans, MorePlans}
use Rattle.cal_walk.specs.Left.{Sight, is_over, are_over, left, left_at_once, enables, enables_at_once, tests, tests_at_once}
use Rattle.cal_token.specs.inside.Coming.{IsOff, AllAreOff, Leaves, Together, LeaveAtOnce, NoneLeft, OneOver, OneEnded, OneOn}
use Rattle.cal_token.specs.inside.Laws.{ComesTo, Walks, StaysOff}
use Rattle.cal_token.specs.inside.Tokens.{Tokens, Ended, Steps, StepAtOnce, size, unless_over}
use Rattle.cal_token.specs.inside.Tokens.{ends, have_ended, enables_by, enables_by_at_once, tests_by, tests_by_at_once}
use Rattle.cal_token.proofs.OverLemmas.{over_enables, over_tests, over_left}
use Rattle.cal_token.proofs.TestLemmas.{only_first, only_second, or_same, and_same, at_true, at_false, of_false}
use Rattle.cal_token.proofs.Walking.{Law, WalkAtOnce, StayOffAtOnce, AtOnceLaw}

-- the first plan
module _ (v : Tokens) (s : Sight) (k : ℕ) (p : Plan) (ps : Plans) where
  abbrev after : ℕ
  after = k + size p

  -- how its token steps
  abbrev EndedSteps : (start all : Bool) → Tokens → Type 0
  EndedSteps start all w = w (Ended k) ≡ ((ends v s k p start || v (Ended k)) && not all)

  step_of : (start all : Bool) (w : Tokens) → is_over p ≡ false → StepAtOnce v s k (MorePlans p ps) start all w → Steps v s k p start w × EndedSteps start all w
  step_of start all w more steps = of_false (is_over p) (Unit {0}) (Steps v s k p start w × EndedSteps start all w) more steps.0

  off_past : (w : Tokens) → is_over p ≡ true → AllAreOff w after ps → AllAreOff w k (MorePlans p ps)
  off_past w over off = (at_true (is_over p) (Unit {0}) (IsOff w k p × (w (Ended k) ≡ false)) over tt, off)

  off_here : (w : Tokens) → is_over p ≡ false → IsOff w k p → w (Ended k) ≡ false → AllAreOff w after ps → AllAreOff w k (MorePlans p ps)
  off_here w more off none others = (at_false (is_over p) (Unit {0}) (IsOff w k p × (w (Ended k) ≡ false)) more (off, none), others)

  -- where all end in the row the token goes
  gone : (start : Bool) (w : Tokens) → EndedSteps start true w → w (Ended k) ≡ false
  gone start w step = step ∙ and_right (ends v s k p start || v (Ended k)) false refl

  -- an answer of the first is that of its plan where it takes a row, and else no
  answer_here : (answer x : Bool) → is_over p ≡ false → answer ≡ x → unless_over p answer ≡ x
  answer_here answer x more e = cond-false (is_over p) false answer more ∙ e

  answer_none : (answer x : Bool) → is_over p ≡ true → x ≡ false → unless_over p answer ≡ x
  answer_none answer x over none = cond-true (is_over p) false answer over ∙ sym none

  has_ended : (start x : Bool) → (is_over p || ends v s k p start || v (Ended k)) ≡ true → x ≡ true → (is_over p || ends v s k p start || v (Ended k)) ≡ x
  has_ended start x one other = one ∙ sym other

  -- the first takes no row
  past : (ended : Plan) (rests : Plans) (start : Bool) → is_over p ≡ true → is_over ended ≡ true → WalkAtOnce v s after ps rests start
      → WalkAtOnce v s k (MorePlans p ps) (MorePlans ended rests) start
  past ended rests start over none walk = record {
    enabled = λ actor. or_same (unless_over p (enables_by v k p start actor)) (enables_by_at_once v after ps start actor) (enables ended actor)
        (enables_at_once rests actor)
        (answer_none (enables_by v k p start actor) (enables ended actor) over (over_enables actor ended none)) (walk.enabled actor);
    tested = λ actor. or_same (unless_over p (tests_by v k p start actor)) (tests_by_at_once v after ps start actor) (tests ended actor)
        (tests_at_once rests actor)
        (answer_none (tests_by v k p start actor) (tests ended actor) over (over_tests actor ended none)) (walk.tested actor);
    last = and_same (is_over p || ends v s k p start || v (Ended k)) (have_ended v s after ps start) (is_over (left s ended))
        (are_over (left_at_once s rests))
        (has_ended start (is_over (left s ended))
        (or_left (is_over p || ends v s k p start) (v (Ended k)) (or_left (is_over p) (ends v s k p start) over)) (over_left s ended none))
        walk.last;
    ended = λ w steps all. off_past w over (walk.ended w steps.1 (and_parts (is_over (left s ended)) (are_over (left_at_once s rests)) all).1);
    left = λ w steps. OneOver k p (left s ended) ps (left_at_once s rests) over (over_left s ended none) (walk.left w steps.1);
  }

  -- the first has ended
  waits : (ended : Plan) (rests : Plans) → is_over p ≡ false → v (Ended k) ≡ true → is_over ended ≡ true → StaysOff v s k p
      → WalkAtOnce v s after ps rests false → WalkAtOnce v s k (MorePlans p ps) (MorePlans ended rests) false
  waits ended rests more there none stays walk = record {
    enabled = λ actor. or_same (unless_over p (enables_by v k p false actor)) (enables_by_at_once v after ps false actor) (enables ended actor)
        (enables_at_once rests actor)
        (answer_here (enables_by v k p false actor) (enables ended actor) more (stays.enabled actor ∙ sym (over_enables actor ended none)))
        (walk.enabled actor);
    tested = λ actor. or_same (unless_over p (tests_by v k p false actor)) (tests_by_at_once v after ps false actor) (tests ended actor)
        (tests_at_once rests actor)
        (answer_here (tests_by v k p false actor) (tests ended actor) more (stays.tested actor ∙ sym (over_tests actor ended none)))
        (walk.tested actor);
    last = and_same (is_over p || ends v s k p false || v (Ended k)) (have_ended v s after ps false) (is_over (left s ended))
        (are_over (left_at_once s rests))
        (has_ended false (is_over (left s ended)) (or_right (is_over p || ends v s k p false) (v (Ended k)) there) (over_left s ended none))
        walk.last;
    ended = λ w steps all.
        let parts : Steps v s k p false w × EndedSteps false true w = step_of false true w more steps in
        off_here w more (stays.next w parts.0) (gone false w parts.1)
        (walk.ended w steps.1 (and_parts (is_over (left s ended)) (are_over (left_at_once s rests)) all).1);
    left = λ w steps.
        let parts : Steps v s k p false w × EndedSteps false false w = step_of false false w more steps in
        let still : w (Ended k) ≡ true =
        parts.1 ∙ and_from (ends v s k p false || v (Ended k)) true (or_right (ends v s k p false) (v (Ended k)) there) refl in
        OneEnded k p (left s ended) ps (left_at_once s rests) more still (stays.next w parts.0) (over_left s ended none) (walk.left w steps.1);
  }

  -- the first starts or is on, and ends or goes on, while others go on
  leaves_here : (rest : Plan) (rests : Plans) (start : Bool) (w : Tokens) → is_over p ≡ false → v (Ended k) ≡ false → Walks v s k p rest start
      → Steps v s k p start w → EndedSteps start false w → LeaveAtOnce w after ps (left_at_once s rests)
      → LeaveAtOnce w k (MorePlans p ps) (MorePlans (left s rest) (left_at_once s rests))
  leaves_here rest rests start w more none walks step token leave =
      let comes : ComesTo w k p (left s rest) = walks.next w step in
      elim (cases_Bool (is_over (left s rest))) [
        | inl over ↦
            let there : w (Ended k) ≡ true =
            token ∙ and_from (ends v s k p start || v (Ended k)) true (or_left (ends v s k p start) (v (Ended k)) (walks.last ∙ over)) refl in
            OneEnded k p (left s rest) ps (left_at_once s rests) more there (comes.ended over) over leave
        | inr lasts ↦
            let absent : w (Ended k) ≡ false =
            token ∙ and_left (ends v s k p start || v (Ended k)) true (or_from (ends v s k p start) (v (Ended k)) (walks.last ∙ lasts) none) in
            OneOn k p (left s rest) ps (left_at_once s rests) more absent (comes.left lasts) leave
      ]

  here : (rest : Plan) (rests : Plans) (start : Bool) → is_over p ≡ false → v (Ended k) ≡ false → Walks v s k p rest start
      → WalkAtOnce v s after ps rests start → WalkAtOnce v s k (MorePlans p ps) (MorePlans rest rests) start
  here rest rests start more none walks walk = record {
    enabled = λ actor. or_same (unless_over p (enables_by v k p start actor)) (enables_by_at_once v after ps start actor) (enables rest actor)
        (enables_at_once rests actor) (answer_here (enables_by v k p start actor) (enables rest actor) more (walks.enabled actor)) (walk.enabled actor);
    tested = λ actor. or_same (unless_over p (tests_by v k p start actor)) (tests_by_at_once v after ps start actor) (tests rest actor)
        (tests_at_once rests actor) (answer_here (tests_by v k p start actor) (tests rest actor) more (walks.tested actor)) (walk.tested actor);
    last = and_same (is_over p || ends v s k p start || v (Ended k)) (have_ended v s after ps start) (is_over (left s rest))
        (are_over (left_at_once s rests))
        (only_first (is_over p || ends v s k p start) (v (Ended k)) (is_over (left s rest))
        (only_second (is_over p) (ends v s k p start) (is_over (left s rest)) more walks.last) none)
        walk.last;
    ended = λ w steps all.
        let each = and_parts (is_over (left s rest)) (are_over (left_at_once s rests)) all in
        let parts : Steps v s k p start w × EndedSteps start true w = step_of start true w more steps in
        let comes : ComesTo w k p (left s rest) = walks.next w parts.0 in
        off_here w more (comes.ended each.0) (gone start w parts.1) (walk.ended w steps.1 each.1);
    left = λ w steps.
        let parts : Steps v s k p start w × EndedSteps start false w = step_of start false w more steps in
        leaves_here rest rests start w more none walks parts.0 parts.1 (walk.left w steps.1);
  }

  off_after : is_over p ≡ true → StayOffAtOnce v s after ps → StayOffAtOnce v s k (MorePlans p ps)
  off_after over stay = record {
    enabled = λ actor. or_from (unless_over p (enables_by v k p false actor)) (enables_by_at_once v after ps false actor)
        (answer_none (enables_by v k p false actor) false over refl) (stay.enabled actor);
    tested = λ actor. or_from (unless_over p (tests_by v k p false actor)) (tests_by_at_once v after ps false actor)
        (answer_none (tests_by v k p false actor) false over refl) (stay.tested actor);
    last = and_same (is_over p || ends v s k p false || v (Ended k)) (have_ended v s after ps false) (is_over p) (are_over ps)
        (has_ended false (is_over p)
        (or_left (is_over p || ends v s k p false) (v (Ended k)) (or_left (is_over p) (ends v s k p false) over)) over)
        stay.last;
    next = λ w all steps. off_past w over (stay.next w all steps.1);
  }

  off_too : is_over p ≡ false → v (Ended k) ≡ false → StaysOff v s k p → StayOffAtOnce v s after ps → StayOffAtOnce v s k (MorePlans p ps)
  off_too more none stays stay = record {
    enabled = λ actor. or_from (unless_over p (enables_by v k p false actor)) (enables_by_at_once v after ps false actor)
        (answer_here (enables_by v k p false actor) false more (stays.enabled actor)) (stay.enabled actor);
    tested = λ actor. or_from (unless_over p (tests_by v k p false actor)) (tests_by_at_once v after ps false actor)
        (answer_here (tests_by v k p false actor) false more (stays.tested actor)) (stay.tested actor);
    last = and_same (is_over p || ends v s k p false || v (Ended k)) (have_ended v s after ps false) (is_over p) (are_over ps)
        (only_first (is_over p || ends v s k p false) (v (Ended k)) (is_over p)
        (only_first (is_over p) (ends v s k p false) (is_over p) refl stays.last) none)
        stay.last;
    next = λ w all steps.
        let parts : Steps v s k p false w × EndedSteps false all w = step_of false all w more steps in
        let ended : w (Ended k) ≡ false =
        parts.1 ∙ and_left (ends v s k p false || v (Ended k)) (not all) (or_from (ends v s k p false) (v (Ended k)) stays.last none) in
        off_here w more (stays.next w parts.0) ended (stay.next w all steps.1);
  }

module _ (v : Tokens) (s : Sight) (p : Plan) (ps : Plans) (law : Law v s p) (others : AtOnceLaw v s ps) where
  off_parts : (k : ℕ) → is_over p ≡ false → AllAreOff v k (MorePlans p ps) → IsOff v k p × (v (Ended k) ≡ false)
  off_parts k more off = of_false (is_over p) (Unit {0}) (IsOff v k p × (v (Ended k) ≡ false)) more off.0

  start : (k : ℕ) → AllAreOff v k (MorePlans p ps) → WalkAtOnce v s k (MorePlans p ps) (MorePlans p ps) true
  start k off =
      let walk : WalkAtOnce v s (k + size p) ps ps true = others.start (k + size p) off.1 in
      elim (cases_Bool (is_over p)) [
        | inl over ↦ past v s k p ps p ps true over over walk
        | inr more ↦
            let parts : IsOff v k p × (v (Ended k) ≡ false) = off_parts k more off in
            here v s k p ps p ps true more parts.1 (law.start k more parts.0) walk
      ]

  go_on : (k : ℕ) (rests : Plans) → LeaveAtOnce v k (MorePlans p ps) rests → WalkAtOnce v s k (MorePlans p ps) rests false
  go_on k rests (OneOver _ _ ended _ left' over none leave) = past v s k p ps ended left' false over none (others.on (k + size p) left' leave)
  go_on k rests (OneEnded _ _ ended _ left' more there off none leave) =
      waits v s k p ps ended left' more there none (law.off k more off) (others.on (k + size p) left' leave)
  go_on k rests (OneOn _ _ rest _ left' more absent leaves leave) =
      here v s k p ps rest left' false more absent (law.on k rest more leaves) (others.on (k + size p) left' leave)

  rest_off : (k : ℕ) → AllAreOff v k (MorePlans p ps) → StayOffAtOnce v s k (MorePlans p ps)
  rest_off k off =
      let stay : StayOffAtOnce v s (k + size p) ps = others.off (k + size p) off.1 in
      elim (cases_Bool (is_over p)) [
        | inl over ↦ off_after v s k p ps over stay
        | inr more ↦
            let parts : IsOff v k p × (v (Ended k) ≡ false) = off_parts k more off in
            off_too v s k p ps more parts.1 (law.off k more parts.0) stay
      ]

  pub more_at_once : AtOnceLaw v s (MorePlans p ps)
  more_at_once = record { start = start; on = go_on; off = rest_off }

module _ (v : Tokens) (s : Sight) where
  nothing_walks : (k : ℕ) (start : Bool) → WalkAtOnce v s k NoPlans NoPlans start
  nothing_walks k start = record {
    enabled = λ actor. refl;
    tested = λ actor. refl;
    last = refl;
    ended = λ w steps all. tt;
    left = λ w steps. NoneLeft k;
  }

  none_on_at_once : (k : ℕ) (rests : Plans) → LeaveAtOnce v k NoPlans rests → WalkAtOnce v s k NoPlans rests false
  none_on_at_once k rests (NoneLeft _) = nothing_walks k false

  pub none_at_once : AtOnceLaw v s NoPlans
  none_at_once = record {
    start = λ k off. nothing_walks k true;
    on = none_on_at_once;
    off = λ k off. record { enabled = λ actor. refl; tested = λ actor. refl; last = refl; next = λ w all steps. tt };
  }

-- ---- the plan of them

module _ (v : Tokens) (s : Sight) (ps : Plans) where
  walks_of : (k : ℕ) (rests : Plans) (start : Bool) → WalkAtOnce v s (k + 1) ps rests start → Walks v s k (AtOnce ps) (AtOnce rests) start
  walks_of k rests start walk = record {
    enabled = walk.enabled;
    tested = walk.tested;
    last = walk.last;
    next = λ w steps.
        let S : Bool → Type 0 = λ all. StepAtOnce v s (k + 1) ps start all w in
        record {
          ended = λ over. walk.ended w (subst S (walk.last ∙ over) steps) over;
          left = λ lasts. Together k ps (left_at_once s rests) lasts (walk.left w (subst S (walk.last ∙ lasts) steps));
        };
  }

  module _ (law : AtOnceLaw v s ps) where
    on_at_once : (k : ℕ) (rest : Plan) → Leaves v k (AtOnce ps) rest → Walks v s k (AtOnce ps) rest false
    on_at_once k rest (Together _ _ rests lasts leave) = walks_of k rests false (law.on (k + 1) rests leave)

    off_at_once : (k : ℕ) → are_over ps ≡ false → IsOff v k (AtOnce ps) → StaysOff v s k (AtOnce ps)
    off_at_once k more off =
        let stay : StayOffAtOnce v s (k + 1) ps = law.off (k + 1) off in
        record {
          enabled = stay.enabled;
          tested = stay.tested;
          last = stay.last ∙ more;
          next = λ w steps. stay.next w (have_ended v s (k + 1) ps false) steps;
        }

    pub at_once_law : Law v s (AtOnce ps)
    at_once_law = record {
      start = λ k more off. walks_of k ps true (law.start (k + 1) off);
      on = λ k rest more leaves. on_at_once k rest leaves;
      off = λ k more off. off_at_once k more off;
    }
