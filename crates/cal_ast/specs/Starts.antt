-- When an instance that isn't bare starts, is done, and lets its actors act, over its port go. Calyx, ASPLOS 2021; the rows are this project's.
use Rattle.std.specs.Prelude.{◌≡◌, ℕ, ◌+◌, max, Bool}
use Rattle.cal_ast.specs.Actors.{Actor}
use Rattle.cal_ast.specs.Plan.{Plan}
use Rattle.cal_ast.specs.Spans.{View, IsFirst, Spans, Acts}

-- the done row of a start: the row after the plan's last one, and at least the row after the start
abbrev pub done_row : (start end : ℕ) → ℕ
done_row start end = max (start + 1) end

-- the instance starts in the first row with go, and again in the first such row after each done row
pub data Starts (v : View) (go : ℕ → Bool) (plan : Plan) : ℕ → Type 0 where
  AtFirst : (t : ℕ) → IsFirst go v.rows 0 t → Starts v go plan t
  Again : (s end t : ℕ) → Starts v go plan s → Spans v plan s end → IsFirst go v.rows (done_row s end + 1) t → Starts v go plan t

-- its done is 1 in the row
pub record IsDoneRow (v : View) (go : ℕ → Bool) (plan : Plan) (r : ℕ) : Type 0 where
  pub start : ℕ
  pub end : ℕ
  pub starts : Starts v go plan start
  pub spans : Spans v plan start end
  pub here : r ≡ done_row start end

-- the actor acts in the row, from some start
pub record IsActing (v : View) (go : ℕ → Bool) (plan : Plan) (actor : Actor) (r : ℕ) : Type 0 where
  pub start : ℕ
  pub starts : Starts v go plan start
  pub acts : Acts v plan start actor r
