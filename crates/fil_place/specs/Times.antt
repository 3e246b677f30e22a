-- Times and intervals by numbers of a component's events. This project's.
use Rattle.std.specs.Prelude.{◌≡◌, List, map, slice_get, Option, Some, None, option_map}
use Rattle.hw_names.specs.Name.{Text}
use Rattle.fil_ast.specs.Timeline as tree
use Rattle.fil_ast.specs.Tree.{TimeAt}
use Rattle.fil_place.specs.declared.times.Interval.{Interval}
use Rattle.fil_place.specs.declared.times.Offset.{Offset}

-- the time of an offset from one of these events
abbrev pub time_shown : List Text → Offset → Option TimeAt
time_shown events o = option_map (λ name. record { event = name; plus = o.plus }) (slice_get events o.event)

abbrev pub known : TimeAt → Option TimeAt
known t = Some t

-- these offsets are these times
abbrev pub AreTimes : List Text → List Offset → List TimeAt → Type 0
AreTimes events offsets times = map (time_shown events) offsets ≡ map known times

-- both are nothing, or the same interval
abbrev pub ShowsInterval : List Text → Option Interval → Option tree.Interval → Type 0
ShowsInterval events None None = Unit {0}
ShowsInterval events (Some i) (Some j) = (slice_get events i.event ≡ Some j.event) × (i.from ≡ j.from) × (i.to ≡ j.to)
ShowsInterval events None (Some j) = ⊥
ShowsInterval events (Some i) None = ⊥
