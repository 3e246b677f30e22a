-- Where a value is available, and where it is missing, by numbers of a component's events. This project's.
use Rattle.std.specs.Prelude.{◌≡◌, ℕ, ◌<◌, ◌≤◌, ◌↔◌, List, slice_get, Option, Some}
use Rattle.hw_names.specs.Name.{Text}
use Rattle.fil_ast.specs.Scope.{Scope, Result}
use Rattle.fil_ast.specs.Timeline as tree
use Rattle.fil_ast.specs.Tree.{ValueTree}
use Rattle.fil_rules.specs.declared.timeline.missing.Available.{Available}
use Rattle.fil_rules.specs.declared.timeline.missing.Available.TheVariants.{Always, Within, Never}
use Rattle.fil_place.specs.declared.times.Interval.{Interval}
use Rattle.fil_ast.specs.Timeline.{IsAvailable, IsIn, interval_at}

-- an offset of an event lies in the interval
abbrev pub IsInside : Interval → ℕ → ℕ → Type 0
IsInside i event offset = (i.event ≡ event) × (i.from ≤ offset) × (offset < i.to)

abbrev pub IsAt : Available → ℕ → ℕ → Type 0
IsAt Always event offset = Unit {0}
IsAt (Within i) event offset = IsInside i event offset
IsAt Never event offset = ⊥

-- the first offset of an event, from one on, that is outside the interval
pub record IsFirstOutside (i : Interval) (event from first : ℕ) : Type 0 where
  pub after : from ≤ first
  pub outside : ¬ IsInside i event first
  pub least : (offset : ℕ) → from ≤ offset → offset < first → IsInside i event offset

-- available from the start of the need on
abbrev pub IsAvailableFrom : Available → Interval → Type 0
IsAvailableFrom available need = (offset : ℕ) → need.from ≤ offset → IsAt available need.event offset

-- available throughout the need
abbrev pub IsThroughout : Available → Interval → Type 0
IsThroughout available need = (offset : ℕ) → need.from ≤ offset → offset < need.to → IsAt available need.event offset

-- the first offset, from the start of the need on, at which there is no value
pub record IsFirstMissing (available : Available) (need : Interval) (first : ℕ) : Type 0 where
  pub after : need.from ≤ first
  pub missing : ¬ IsAt available need.event first
  pub least : (offset : ℕ) → need.from ≤ offset → offset < first → IsAt available need.event offset

-- what is available in the design, by the numbers of events
abbrev pub ShowsAvailable : List Text → Scope → ValueTree → Available → Type 0
ShowsAvailable events scope value available =
    (event : ℕ) (name : Text) (offset : ℕ) → slice_get events event ≡ Some name → IsAt available event offset ↔ tree.IsAvailable scope value name offset

-- the interval of an output of an invocation
abbrev pub result_interval : Result → Option tree.Interval
result_interval r = interval_at r.invocation.gives.times r.port

-- an offset of an event lies in the interval, if there is one
abbrev pub IsDuring : Option tree.Interval → Text → ℕ → Type 0
IsDuring o event offset = (i : tree.Interval) × (o ≡ Some i) × IsIn i event offset

-- available exactly in the interval, if there is one
abbrev pub ShowsDuring : List Text → Option tree.Interval → Available → Type 0
ShowsDuring events o available = (event : ℕ) (name : Text) (offset : ℕ) → slice_get events event ≡ Some name →
    IsAt available event offset ↔ IsDuring o name offset

-- the least offset of the interval at which the value is not available
pub record IsMissingIn (scope : Scope) (value : ValueTree) (interval : Option tree.Interval) (offset : ℕ) : Type 0 where
  pub need : tree.Interval
  pub is_need : interval ≡ Some need
  pub from : need.from ≤ offset
  pub to : offset < need.to
  pub missing : ¬ IsAvailable scope value need.event offset
  pub least : (i : ℕ) → need.from ≤ i → i < offset → IsAvailable scope value need.event i
