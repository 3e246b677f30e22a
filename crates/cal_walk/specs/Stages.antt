-- How far the control of an instance has come before a row, over what it sees of the rows before. This project's.
use Rattle.std.specs.Prelude.{◌≡◌, ◌↔◌, ℕ, zero, suc, ◌<◌, Bool, true, false, ◌&&◌, if◌then◌else◌}
use Rattle.cal_ast.specs.Actors.{Actor}
use Rattle.cal_ast.specs.Plan.{Plan}
use Rattle.cal_ast.specs.Spans.{View}
use Rattle.cal_ast.specs.Starts.{IsActing, IsDoneRow}
use Rattle.cal_walk.specs.Left.{Sight, sight_at, is_over, left, enables, tests, wants}

pub data Progress : Type 0 where
  -- it starts in the next row with go
  Waits : Progress
  -- this is left of it
  GoesOn : Plan → Progress
  -- the row is its done row
  Ends : Progress

abbrev pub progress_of : Plan → Progress
progress_of p = if is_over p then Ends else GoesOn p

-- after a row with this go in which this was seen
abbrev pub next_progress : Plan → Sight → Bool → Progress → Progress
next_progress plan s go Waits = if go then progress_of (left s plan) else Waits
next_progress plan s go (GoesOn p) = progress_of (left s p)
next_progress plan s go Ends = Waits

-- before row t
abbrev pub progress_at : View → (ℕ → Bool) → Plan → ℕ → Progress
progress_at v go plan zero = Waits
progress_at v go plan (suc t) = next_progress plan (sight_at v t) (go t) (progress_at v go plan t)

-- the actor acts in a row with this go in which it is done or not
abbrev pub acts_now : Plan → Progress → Actor → (go done : Bool) → Bool
acts_now plan Waits actor go done = go && wants plan actor done
acts_now plan (GoesOn p) actor go done = wants p actor done
acts_now plan Ends actor go done = false

abbrev pub is_running_now : Progress → Bool
is_running_now Waits = false
is_running_now (GoesOn p) = true
is_running_now Ends = false

-- the actor is enabled in the row, and it acts in the row of a test; where control waits, if it starts in the row
abbrev pub enabled_now : Plan → Progress → Actor → Bool
enabled_now plan Waits actor = enables plan actor
enabled_now plan (GoesOn p) actor = enables p actor
enabled_now plan Ends actor = false

abbrev pub tested_now : Plan → Progress → Actor → Bool
tested_now plan Waits actor = tests plan actor
tested_now plan (GoesOn p) actor = tests p actor
tested_now plan Ends actor = false

abbrev pub is_done_now : Progress → Bool
is_done_now Waits = false
is_done_now (GoesOn p) = false
is_done_now Ends = true

-- the law: control that is walked forward lets actors act, and is done, exactly where the schedule says so
abbrev pub WalkingIsTheSchedule : Type 0
WalkingIsTheSchedule =
    (v : View) (go : ℕ → Bool) (plan : Plan) (t : ℕ) → t < v.rows →
    ((actor : Actor) → (acts_now plan (progress_at v go plan t) actor (go t) (v.done actor t) ≡ true) ↔ IsActing v go plan actor t)
    × ((is_done_now (progress_at v go plan t) ≡ true) ↔ IsDoneRow v go plan t)
