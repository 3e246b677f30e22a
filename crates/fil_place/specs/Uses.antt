-- Uses of a callee's events, event by event. This project's.
use Rattle.std.specs.Prelude.{◌≡◌, ℕ, ◌+◌, List, slice_get, Some, Option, None}
use Rattle.hw_names.specs.Name.{Text}
use Rattle.fil_ast.specs.Signature.{Delay, SigEvent, Signature}
use Rattle.fil_ast.specs.Timeline.{Use, hold_of}
use Rattle.fil_ast.specs.Tree.{TimeAt}
use Rattle.fil_place.specs.declared.times.Offset.{Offset}
use Rattle.fil_place.specs.declared.uses.Use as numbers
use Rattle.std.specs.Borrow.{Bor}
use Rattle.fil_place.specs.Times.{time_shown}

-- the greatest number of rows between two offsets
abbrev pub MOST_HOLD : ℕ
MOST_HOLD = 65535

abbrev pub plus_of : TimeAt → ℕ
plus_of t = t.plus

abbrev pub next_plus : Bor Offset → ℕ
next_plus o = o.now.plus

-- event k of a callee, of this delay, is triggered at this time and held for so many rows
pub record IsUseAt (delay : Delay) (times : List TimeAt) (k : ℕ) (time : TimeAt) (hold : ℕ) : Type 0 where
  pub at : slice_get times k ≡ Some time
  pub held : hold_of delay time (slice_get times (k + 1)) ≡ Some hold

-- this use, or none
abbrev pub ShowsUse : List Text → Delay → List TimeAt → ℕ → Option numbers.Use → Type 0
ShowsUse events delay times k None = (time : TimeAt) (hold : ℕ) → ¬ IsUseAt delay times k time hold
ShowsUse events delay times k (Some u) = (time : TimeAt) × (time_shown events u.at ≡ Some time) × IsUseAt delay times k time u.hold

-- the use by numbers is this use
pub record IsShownBy (events : List Text) (shown : numbers.Use) (u : Use) : Type 0 where
  pub event : slice_get events shown.at.event ≡ Some u.at.event
  pub plus : shown.at.plus ≡ u.at.plus
  pub hold : shown.hold ≡ u.hold

-- event k of the callee has this delay
abbrev pub HasDelay : Signature → ℕ → Delay → Type 0
HasDelay sig k delay = (e : SigEvent) × (slice_get sig.events k ≡ Some e) × (e.delay ≡ delay)
