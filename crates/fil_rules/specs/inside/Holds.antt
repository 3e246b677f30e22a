-- F7 and F10 at one event of a callee. This project's.
use Rattle.std.specs.Prelude.{◌≡◌, ℕ, ◌+◌, ◌<◌, ◌≤◌, List, slice_get, Some, Contains}
use Rattle.fil_ast.specs.Signature.{Delay, Gap}
use Rattle.fil_ast.specs.Tree.{TimeAt, Event, Component}
use Rattle.fil_place.specs.Uses.{IsUseAt}

-- F7 of event k of a callee
abbrev pub HoldsAt : Delay → List TimeAt → ℕ → Type 0
HoldsAt delay times k = delay ≡ Gap → (s t : TimeAt) → slice_get times k ≡ Some s → slice_get times (k + 1) ≡ Some t → s.plus + 1 < t.plus

-- F10 of event k of a callee
abbrev pub KeepsDelayAt : Component → Delay → List TimeAt → ℕ → Type 0
KeepsDelayAt c delay times k = (time : TimeAt) (hold : ℕ) → IsUseAt delay times k time hold → (e : Event) → Contains c.events e → e.name ≡ time.event →
    hold ≤ e.delay
