-- The law of tokens: they walk control forward. This project's.
use Rattle.std.specs.Prelude.{◌≡◌, ℕ, Bool, true, false}
use Rattle.cal_ast.specs.Actors.{Actor}
use Rattle.cal_ast.specs.Plan.{Plan}
use Rattle.cal_walk.specs.Left.{Sight, is_over, left, enables, tests}
use Rattle.cal_token.specs.inside.Coming.{IsOff, Leaves}
use Rattle.cal_token.specs.inside.Tokens.{Tokens, ends, enables_by, tests_by, Steps}

-- tokens of the plan where nothing of it is left, or else this
pub record ComesTo (v : Tokens) (k : ℕ) (p rest : Plan) : Type 0 where
  pub ended : is_over rest ≡ true → IsOff v k p
  pub left : is_over rest ≡ false → Leaves v k p rest

-- in a row before which this is left of the plan, what acts, what ends and what comes next are those of what is left
pub record Walks (v : Tokens) (s : Sight) (k : ℕ) (p rest : Plan) (start : Bool) : Type 0 where
  pub enabled : (actor : Actor) → enables_by v k p start actor ≡ enables rest actor
  pub tested : (actor : Actor) → tests_by v k p start actor ≡ tests rest actor
  pub last : ends v s k p start ≡ is_over (left s rest)
  pub next : (w : Tokens) → Steps v s k p start w → ComesTo w k p (left s rest)

-- in a row in which the plan isn't on, nothing acts, ends or comes
pub record StaysOff (v : Tokens) (s : Sight) (k : ℕ) (p : Plan) : Type 0 where
  pub enabled : (actor : Actor) → enables_by v k p false actor ≡ false
  pub tested : (actor : Actor) → tests_by v k p false actor ≡ false
  pub last : ends v s k p false ≡ false
  pub next : (w : Tokens) → Steps v s k p false w → IsOff w k p

-- the law, for a plan that takes a row: where it starts, where it is on, and where it isn't
abbrev pub TokensWalkControl : Type 0
TokensWalkControl =
    (v : Tokens) (s : Sight) (k : ℕ) (p : Plan) → is_over p ≡ false →
    (IsOff v k p → Walks v s k p p true)
    × ((rest : Plan) → Leaves v k p rest → Walks v s k p rest false)
    × (IsOff v k p → StaysOff v s k p)
