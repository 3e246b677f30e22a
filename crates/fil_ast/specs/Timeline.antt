-- F6 to F10: values are read within their availability, and events keep delays. Filament, PLDI 2023; the numbers are this project's.
use Rattle.std.specs.Prelude.{◌≡◌, ℕ, ◌+◌, ◌-◌, ◌<◌, ◌≤◌, List, map, slice_get, Option, Some, None, option_map, option_and_then, IfSome, All, Contains}
use Rattle.hw_names.specs.Name.{Text}
use Rattle.fil_ast.specs.Scope.{Scope, Result, input_of, result_of}
use Rattle.fil_ast.specs.Signature.{Delay, Fixed, Gap, End, SigEvent, SigPort, Signature}
use Rattle.fil_ast.specs.Tree.{TimeAt, Event, DataPort, Giving, Component, ValueTree, InputValue, OutputValue, Literal}

-- the offsets from `from` to before `to` of an event of the component
pub record Interval : Type 0 where
  pub event : Text
  pub from : ℕ
  pub to : ℕ

abbrev pub IsIn : Interval → Text → ℕ → Type 0
IsIn i event offset = (i.event ≡ event) × (i.from ≤ offset) × (offset < i.to)

abbrev pub interval_between : TimeAt → TimeAt → SigPort → Interval
interval_between s t port = record { event = s.event; from = s.plus + port.from.plus; to = t.plus + port.to.plus }

-- the interval of a callee's port, where the callee's events are at these times: an input is needed in it, an output available
abbrev pub interval_at : List TimeAt → SigPort → Option Interval
interval_at times port =
    option_and_then (λ s. option_map (λ t. interval_between s t port) (slice_get times port.to.event)) (slice_get times port.from.event)

-- the interval of one of the component's own ports
abbrev pub own_times : Component → List TimeAt
own_times c = map (λ (e : Event). record { event = e.name; plus = 0 }) c.events

abbrev pub own_interval : Scope → Option SigPort → Option Interval
own_interval scope port = option_and_then (interval_at (own_times scope.comp)) port

-- the value is available at this offset of this event; a literal is at every offset of every event
abbrev pub IsAvailable : Scope → ValueTree → Text → ℕ → Type 0
IsAvailable scope (Literal width value) event offset = Unit {0}
IsAvailable scope (InputValue name) event offset = (i : Interval) × (own_interval scope (input_of scope name) ≡ Some i) × IsIn i event offset
IsAvailable scope (OutputValue invocation port) event offset =
    (r : Result) × (result_of scope invocation port ≡ Some r) × (i : Interval) × (interval_at r.invocation.gives.times r.port ≡ Some i) × IsIn i event offset

-- the value is available throughout the interval
abbrev pub Covers : Scope → ValueTree → Interval → Type 0
Covers scope value i = (offset : ℕ) → i.from ≤ offset → offset < i.to → IsAvailable scope value i.event offset

abbrev pub event_delay : Component → Text → Delay → Type 0
event_delay c name delay = (e : Event) × Contains c.events e × (e.name ≡ name) × (delay ≡ Fixed e.delay)

-- the port is available no longer than its event's delay
abbrev pub IsShort : Component → DataPort → Type 0
IsShort c p = (e : Event) → Contains c.events e → e.name ≡ p.from.event → p.to.plus - p.from.plus ≤ e.delay

-- F6 at the signature
pub record HasShortPorts (c : Component) : Type 0 where
  pub ins : All (IsShort c) c.ins
  pub outs : All (IsShort c) c.outs

-- F7: the second time of a register comes after the row that follows the first
abbrev pub HoldsSome : Signature → List TimeAt → Type 0
HoldsSome sig times =
    (k : ℕ) (e : SigEvent) → slice_get sig.events k ≡ Some e → e.delay ≡ Gap → (s t : TimeAt) → slice_get times k ≡ Some s → slice_get times (k + 1) ≡ Some t →
    s.plus + 1 < t.plus

-- argument k, where it has a port, is available throughout its need, on the need's event
abbrev pub ReadsArgument : Scope → Signature → Giving → ℕ → Type 0
ReadsArgument scope sig gives k =
    (arg : ValueTree) (port : SigPort) → slice_get gives.args k ≡ Some arg → slice_get sig.ins k ≡ Some port →
    IfSome (interval_at gives.times port) (Covers scope arg)

-- F8: the need of each argument lies within its value's availability
abbrev pub ReadsAvailable : Scope → Signature → Giving → Type 0
ReadsAvailable scope sig gives = (k : ℕ) → ReadsArgument scope sig gives k

-- how long a callee's event is held from its time on: its delay, or for a register what its second time leaves; an end holds nothing
abbrev pub until : TimeAt → TimeAt → ℕ
until s t = t.plus - (s.plus + 1)

abbrev pub hold_of : Delay → TimeAt → Option TimeAt → Option ℕ
hold_of (Fixed d) s next = Some d
hold_of Gap s next = option_map (until s) next
hold_of End s next = None

-- an event of an instance that an invocation triggers: at this time, held for so many rows
pub record Use : Type 0 where
  pub inst : Text
  pub event : ℕ
  pub go : Option Text
  pub at : TimeAt
  pub hold : ℕ

-- the use of event k of a callee: none where it triggers nothing
abbrev pub use_of : ℕ → SigEvent → Text → List TimeAt → Option Use
use_of k e inst times =
    option_and_then (λ t. option_map (λ rows. record { inst = inst; event = k; go = e.go; at = t; hold = rows }) (hold_of e.delay t (slice_get times (k + 1))))
    (slice_get times k)

-- the use of the callee's event with its number, in an invocation of an instance
pub record IsUse (sig : Signature) (inst : Text) (times : List TimeAt) (u : Use) : Type 0 where
  pub event : SigEvent
  pub of : slice_get sig.events u.event ≡ Some event
  pub is : use_of u.event event inst times ≡ Some u

-- F10: an event of the callee has at most the delay of the event that its time names
abbrev pub KeepsDelays : Scope → Signature → Text → Giving → Type 0
KeepsDelays scope sig inst gives =
    (u : Use) → IsUse sig inst gives.times u → (e : Event) → Contains scope.comp.events e → e.name ≡ u.at.event → u.hold ≤ e.delay
