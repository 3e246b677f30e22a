-- A choice: the row of the test starts one of two parts by its token.
use Rattle.std.proofs.Common.{◌≡◌, ℕ, ◌+◌, Bool, true, false, not, ◌||◌, Option, refl, ◌∙◌}
use Rattle.std.specs.Prelude.{if◌then◌else◌}
use Rattle.std.proofs.lemmas.Bool.{or_from}
use Rattle.cal_ast.specs.Actors.{Actor}
use Rattle.cal_ast.specs.Plan.{Plan, Chooses}
use Rattle.cal_ast.specs.Tree.{PortName}
use Rattle.cal_walk.specs.Left.{Sight, is_over, is_by, left, enables, tests}
use Rattle.cal_token.specs.inside.Coming.{IsOff, IsLaterOff, Leaves, OnBranch, OffBranch, IsStarting}
use Rattle.cal_token.specs.inside.Laws.{ComesTo, Walks, StaysOff}
use Rattle.cal_token.specs.inside.Tokens.{Tokens, Starting, StepsLater, size, ends_later, enables_later, tests_later}
use Rattle.cal_token.proofs.LaterLemmas.{later_walks, later_off}
use Rattle.cal_token.proofs.StartLemmas.{with_none}
use Rattle.cal_token.proofs.TestLemmas.{only_first, only_second}
use Rattle.cal_token.proofs.Walking.{Law, LaterComesTo, LaterWalks, LaterStaysOff}

over_chosen : (b : Bool) (on off : Plan) → (if b then is_over on else is_over off) ≡ is_over (if b then on else off)
over_chosen true on off = refl
over_chosen false on off = refl

module _ (v : Tokens) (s : Sight) (k : ℕ) (port : PortName) (by : Option Actor) (on off : Plan) where
  -- the numbers of the two parts
  abbrev one : ℕ
  one = k + 1

  abbrev other : ℕ
  other = k + 1 + size on

  abbrev choice : Plan
  choice = Chooses port by on off

  chosen : LaterStaysOff v s one on → LaterStaysOff v s other off → (w : Tokens) (b : Bool) → StepsLater v s one on b w → StepsLater v s other off (not b) w
      → ComesTo w k choice (if b then on else off)
  chosen on_off off_off w true steps steps' = record {
    ended = λ over. (with_none w one on false (IsOff w one on) over, off_off.next w steps');
    left = λ lasts.
        let start : (w (Starting one) ≡ true) × IsOff w one on = on_off.starts w lasts steps in
        OnBranch k port by on off on (IsStarting one on lasts start.0 start.1) (off_off.next w steps');
  }
  chosen on_off off_off w false steps steps' = record {
    ended = λ over. (on_off.next w steps, with_none w other off false (IsOff w other off) over);
    left = λ lasts.
        let start : (w (Starting other) ≡ true) × IsOff w other off = off_off.starts w lasts steps' in
        OffBranch k port by on off off (on_off.next w steps) (IsStarting other off lasts start.0 start.1);
  }

  testing : LaterStaysOff v s one on → LaterStaysOff v s other off → Walks v s k choice choice true
  testing on_off off_off = record {
    enabled = λ actor. or_from (enables_later v one on actor) (enables_later v other off actor) (on_off.enabled actor) (off_off.enabled actor);
    tested = λ actor. only_first (is_by by actor || tests_later v one on actor) (tests_later v other off actor) (is_by by actor)
        (only_first (is_by by actor) (tests_later v one on actor) (is_by by actor) refl (on_off.tested actor)) (off_off.tested actor);
    last = let test : Bool = if s.reads port then is_over on else is_over off in
        only_first (test || ends_later v s one on) (ends_later v s other off) test
        (only_first test (ends_later v s one on) test refl on_off.last) off_off.last
        ∙ over_chosen (s.reads port) on off;
    next = λ w steps. chosen on_off off_off w (s.reads port) steps.0 steps.1;
  }

  in_on : (rest : Plan) → LaterWalks v s one on rest → LaterStaysOff v s other off → Walks v s k choice rest false
  in_on rest walks stays = record {
    enabled = λ actor. only_first (enables_later v one on actor) (enables_later v other off actor) (enables rest actor) (walks.enabled actor) (stays.enabled actor);
    tested = λ actor. only_first (tests_later v one on actor) (tests_later v other off actor) (tests rest actor) (walks.tested actor) (stays.tested actor);
    last = only_first (ends_later v s one on) (ends_later v s other off) (is_over (left s rest)) walks.last stays.last;
    next = λ w steps.
        let comes : LaterComesTo w one on (left s rest) = walks.next w steps.0 in
        let away : IsLaterOff w other off = stays.next w steps.1 in
        record { ended = λ over. (comes.ended over, away); left = λ lasts. OnBranch k port by on off (left s rest) (comes.left lasts) away };
  }

  in_off : (rest : Plan) → LaterStaysOff v s one on → LaterWalks v s other off rest → Walks v s k choice rest false
  in_off rest stays walks = record {
    enabled = λ actor. only_second (enables_later v one on actor) (enables_later v other off actor) (enables rest actor) (stays.enabled actor) (walks.enabled actor);
    tested = λ actor. only_second (tests_later v one on actor) (tests_later v other off actor) (tests rest actor) (stays.tested actor) (walks.tested actor);
    last = only_second (ends_later v s one on) (ends_later v s other off) (is_over (left s rest)) stays.last walks.last;
    next = λ w steps.
        let comes : LaterComesTo w other off (left s rest) = walks.next w steps.1 in
        let away : IsLaterOff w one on = stays.next w steps.0 in
        record { ended = λ over. (away, comes.ended over); left = λ lasts. OffBranch k port by on off (left s rest) away (comes.left lasts) };
  }

  resting : LaterStaysOff v s one on → LaterStaysOff v s other off → StaysOff v s k choice
  resting on_off off_off = record {
    enabled = λ actor. or_from (enables_later v one on actor) (enables_later v other off actor) (on_off.enabled actor) (off_off.enabled actor);
    tested = λ actor. or_from (tests_later v one on actor) (tests_later v other off actor) (on_off.tested actor) (off_off.tested actor);
    last = or_from (ends_later v s one on) (ends_later v s other off) on_off.last off_off.last;
    next = λ w steps. (on_off.next w steps.0, off_off.next w steps.1);
  }

module _ (v : Tokens) (s : Sight) (port : PortName) (by : Option Actor) (on off : Plan) (on_law : Law v s on) (off_law : Law v s off) where
  going_on : (k : ℕ) (rest : Plan) → Leaves v k (Chooses port by on off) rest → Walks v s k (Chooses port by on off) rest false
  going_on k rest (OnBranch _ _ _ _ _ _ leaves away) =
      in_on v s k port by on off rest (later_walks v s on on_law (k + 1) rest leaves) (later_off v s off off_law (k + 1 + size on) away)
  going_on k rest (OffBranch _ _ _ _ _ _ away leaves) =
      in_off v s k port by on off rest (later_off v s on on_law (k + 1) away) (later_walks v s off off_law (k + 1 + size on) rest leaves)

  pub choice_law : Law v s (Chooses port by on off)
  choice_law = record {
    start = λ k more away.
        testing v s k port by on off (later_off v s on on_law (k + 1) away.0) (later_off v s off off_law (k + 1 + size on) away.1);
    on = λ k rest more leaves. going_on k rest leaves;
    off = λ k more away.
        resting v s k port by on off (later_off v s on on_law (k + 1) away.0) (later_off v s off off_law (k + 1 + size on) away.1);
  }
