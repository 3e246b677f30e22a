-- What tokens do in a row, of a part that starts by its own token and of plans in turn and at once; the law of each.
use Rattle.std.proofs.Common.{◌≡◌, ℕ, Bool, true, false}
use Rattle.cal_ast.specs.Actors.{Actor}
use Rattle.cal_ast.specs.Plan.{Plan, InTurn, Plans}
use Rattle.cal_walk.specs.Left.{Sight, is_over, are_over, left, left_at_once, enables, enables_at_once, tests, tests_at_once}
use Rattle.cal_token.specs.inside.Coming.{IsOff, IsLaterOff, FirstIsOff, OthersAreOff, AllAreOff, Leaves, LeavesLater, LeavesInTurn, LeaveOthers, FirstStarts, LeaveAtOnce}
use Rattle.cal_token.specs.inside.Laws.{Walks, StaysOff}
use Rattle.cal_token.specs.inside.Tokens.{Tokens, Starting, StepsLater, StepInTurn, OthersStep, StepAtOnce}
use Rattle.cal_token.specs.inside.Tokens.{ends_later, ends_in_turn, the_last_ends, have_ended, enables_later, enables_by_in_turn, others_enable, enables_by_at_once}
use Rattle.cal_token.specs.inside.Tokens.{tests_later, tests_by_in_turn, others_test, tests_by_at_once}

-- the law of a plan
pub record Law (v : Tokens) (s : Sight) (p : Plan) : Type 0 where
  pub start : (k : ℕ) → is_over p ≡ false → IsOff v k p → Walks v s k p p true
  pub on : (k : ℕ) (rest : Plan) → is_over p ≡ false → Leaves v k p rest → Walks v s k p rest false
  pub off : (k : ℕ) → is_over p ≡ false → IsOff v k p → StaysOff v s k p

-- ---- a part that starts by its own token

pub record LaterComesTo (v : Tokens) (k : ℕ) (p rest : Plan) : Type 0 where
  pub ended : is_over rest ≡ true → IsLaterOff v k p
  pub left : is_over rest ≡ false → LeavesLater v k p rest

pub record LaterWalks (v : Tokens) (s : Sight) (k : ℕ) (p rest : Plan) : Type 0 where
  pub enabled : (actor : Actor) → enables_later v k p actor ≡ enables rest actor
  pub tested : (actor : Actor) → tests_later v k p actor ≡ tests rest actor
  pub last : ends_later v s k p ≡ is_over (left s rest)
  pub next : (w : Tokens) → StepsLater v s k p false w → LaterComesTo w k p (left s rest)

pub record LaterStaysOff (v : Tokens) (s : Sight) (k : ℕ) (p : Plan) : Type 0 where
  pub enabled : (actor : Actor) → enables_later v k p actor ≡ false
  pub tested : (actor : Actor) → tests_later v k p actor ≡ false
  pub last : ends_later v s k p ≡ false
  pub next : (w : Tokens) → StepsLater v s k p false w → IsLaterOff w k p
  -- it starts in the next row
  pub starts : (w : Tokens) → is_over p ≡ false → StepsLater v s k p true w → (w (Starting k) ≡ true) × IsOff w k p

-- ---- plans in turn that start by their own tokens

pub record OthersComeTo (v : Tokens) (k : ℕ) (ps : Plans) (rest : Plan) : Type 0 where
  pub ended : is_over rest ≡ true → OthersAreOff v k ps
  pub left : is_over rest ≡ false → LeaveOthers v k ps rest

pub record OthersWalk (v : Tokens) (s : Sight) (k : ℕ) (ps : Plans) (rest : Plan) : Type 0 where
  pub enabled : (actor : Actor) → others_enable v k ps actor ≡ enables rest actor
  pub tested : (actor : Actor) → others_test v k ps actor ≡ tests rest actor
  pub last : the_last_ends v s k ps ≡ is_over (left s rest)
  pub next : (w : Tokens) → OthersStep v s k ps false w → OthersComeTo w k ps (left s rest)

pub record OthersStayOff (v : Tokens) (s : Sight) (k : ℕ) (ps : Plans) : Type 0 where
  pub enabled : (actor : Actor) → others_enable v k ps actor ≡ false
  pub tested : (actor : Actor) → others_test v k ps actor ≡ false
  pub last : the_last_ends v s k ps ≡ false
  pub next : (w : Tokens) → OthersStep v s k ps false w → OthersAreOff w k ps
  -- the first that takes a row starts in the next one
  pub starts : (w : Tokens) → are_over ps ≡ false → OthersStep v s k ps true w → FirstStarts w k ps

pub record OthersLaw (v : Tokens) (s : Sight) (ps : Plans) : Type 0 where
  pub start : (k : ℕ) → FirstStarts v k ps → OthersWalk v s k ps (InTurn ps)
  pub on : (k : ℕ) (rest : Plan) → LeaveOthers v k ps rest → OthersWalk v s k ps rest
  pub off : (k : ℕ) → OthersAreOff v k ps → OthersStayOff v s k ps

-- ---- plans in turn

pub record ComeInTurnTo (v : Tokens) (k : ℕ) (ps : Plans) (rest : Plan) : Type 0 where
  pub ended : is_over rest ≡ true → FirstIsOff v k ps
  pub left : is_over rest ≡ false → LeavesInTurn v k ps rest

pub record WalkInTurn (v : Tokens) (s : Sight) (k : ℕ) (ps : Plans) (rest : Plan) (start : Bool) : Type 0 where
  pub enabled : (actor : Actor) → enables_by_in_turn v k ps start actor ≡ enables rest actor
  pub tested : (actor : Actor) → tests_by_in_turn v k ps start actor ≡ tests rest actor
  pub last : ends_in_turn v s k ps start ≡ is_over (left s rest)
  pub next : (w : Tokens) → StepInTurn v s k ps start w → ComeInTurnTo w k ps (left s rest)

pub record StayOffInTurn (v : Tokens) (s : Sight) (k : ℕ) (ps : Plans) : Type 0 where
  pub enabled : (actor : Actor) → enables_by_in_turn v k ps false actor ≡ false
  pub tested : (actor : Actor) → tests_by_in_turn v k ps false actor ≡ false
  pub last : ends_in_turn v s k ps false ≡ false
  pub next : (w : Tokens) → StepInTurn v s k ps false w → FirstIsOff w k ps

pub record InTurnLaw (v : Tokens) (s : Sight) (ps : Plans) : Type 0 where
  pub start : (k : ℕ) → are_over ps ≡ false → FirstIsOff v k ps → WalkInTurn v s k ps (InTurn ps) true
  pub on : (k : ℕ) (rest : Plan) → LeavesInTurn v k ps rest → WalkInTurn v s k ps rest false
  pub off : (k : ℕ) → FirstIsOff v k ps → StayOffInTurn v s k ps

-- ---- plans at once

pub record WalkAtOnce (v : Tokens) (s : Sight) (k : ℕ) (ps rests : Plans) (start : Bool) : Type 0 where
  pub enabled : (actor : Actor) → enables_by_at_once v k ps start actor ≡ enables_at_once rests actor
  pub tested : (actor : Actor) → tests_by_at_once v k ps start actor ≡ tests_at_once rests actor
  pub last : have_ended v s k ps start ≡ are_over (left_at_once s rests)
  pub ended : (w : Tokens) → StepAtOnce v s k ps start true w → are_over (left_at_once s rests) ≡ true → AllAreOff w k ps
  -- where others go on
  pub left : (w : Tokens) → StepAtOnce v s k ps start false w → LeaveAtOnce w k ps (left_at_once s rests)

pub record StayOffAtOnce (v : Tokens) (s : Sight) (k : ℕ) (ps : Plans) : Type 0 where
  pub enabled : (actor : Actor) → enables_by_at_once v k ps false actor ≡ false
  pub tested : (actor : Actor) → tests_by_at_once v k ps false actor ≡ false
  pub last : have_ended v s k ps false ≡ are_over ps
  pub next : (w : Tokens) (all : Bool) → StepAtOnce v s k ps false all w → AllAreOff w k ps

pub record AtOnceLaw (v : Tokens) (s : Sight) (ps : Plans) : Type 0 where
  pub start : (k : ℕ) → AllAreOff v k ps → WalkAtOnce v s k ps ps true
  pub on : (k : ℕ) (rests : Plans) → LeaveAtOnce v k ps rests → WalkAtOnce v s k ps rests false
  pub off : (k : ℕ) → AllAreOff v k ps → StayOffAtOnce v s k ps
