-- Transactions, legal lists of them, and what they hold. Filament, PLDI 2023.
use Rattle.std.specs.Prelude.{◌≡◌, ◌⊎◌, ℕ, suc, ◌+◌, ◌<◌, ◌≤◌, List, [], ◌∷◌, ◌++◌, map, filter, flat_map, slice_get, bytes_eq, Option, Some, None, option_map}
use Rattle.std.specs.Prelude.{AllPairs, Contains}
use Rattle.hw_names.specs.Name.{Text}
use Rattle.fil_ast.specs.Scope.{Scope, Invocation, instance_signature}
use Rattle.fil_ast.specs.Sharing.{IsUseOf}
use Rattle.fil_ast.specs.Signature.{SigEvent, Signature}
use Rattle.fil_ast.specs.Timeline.{Use, use_of}
use Rattle.fil_ast.specs.Tree.{TimeAt, Event, Component}
use Rattle.fil_ast.specs.declared.tx.Tx.{Tx}

-- when a transaction starts: the component's event of this name, in this row
pub record Start : Type 0 where
  pub event : Text
  pub row : ℕ

-- of one event the second starts after the first, and at least the event's delay after it
abbrev pub Follows : Component → Start → Start → Type 0
Follows c first second =
    first.event ≡ second.event → (first.row < second.row) × ((e : Event) → Contains c.events e → e.name ≡ first.event → first.row + e.delay ≤ second.row)

-- a legal list: the starts of each event rise, and are at least its delay apart
abbrev pub AreLegalStarts : Component → List Start → Type 0
AreLegalStarts c starts = AllPairs (Follows c) starts

-- an event of an instance is held by an invocation, in the transaction with this number, in the rows [from, to)
pub record Hold : Type 0 where
  pub inst : Text
  pub event : ℕ
  pub from : ℕ
  pub to : ℕ
  pub call : Text
  pub tx : ℕ

-- the use as transaction n, which starts in this row, makes it
abbrev pub hold_from : ℕ → ℕ → Text → Use → Hold
hold_from n row call u = record { inst = u.inst; event = u.event; from = row + u.at.plus; to = row + u.at.plus + u.hold; call = call; tx = n }

-- what is held by transactions that start so: what the transaction with the hold's number makes of a use, by an invocation, on the event at which it starts
pub record IsHold (scope : Scope) (starts : List Start) (h : Hold) : Type 0 where
  pub start : Start
  pub started : slice_get starts h.tx ≡ Some start
  pub invocation : Invocation
  pub invoked : Contains scope.invocations invocation
  pub use_at : Use
  pub uses : IsUseOf scope invocation use_at
  pub on_event : use_at.at.event ≡ start.event
  pub held : h ≡ hold_from h.tx start.row invocation.name use_at

-- The same as a list: transaction by transaction, in each the invocations, in each the callee's events.

abbrev pub uses_listed : Option Use → List Use
uses_listed None = []
uses_listed (Some u) = u ∷ []

-- the uses of a callee's events from number k on, in their order
abbrev pub uses_from : ℕ → List SigEvent → Text → List TimeAt → List Use
uses_from k [] inst times = []
uses_from k (e ∷ events) inst times = uses_listed (use_of k e inst times) ++ uses_from (suc k) events inst times

abbrev pub uses_by : Invocation → Option Signature → List Use
uses_by v None = []
uses_by v (Some sig) = uses_from 0 sig.events v.inst v.gives.times

-- the events that an invocation triggers, in the order of its callee
abbrev pub uses_of : Scope → Invocation → List Use
uses_of scope v = uses_by v (instance_signature scope v.inst)

-- what transaction n holds by an invocation
abbrev pub holds_by : Scope → ℕ → Start → Invocation → List Hold
holds_by scope n s v = map (hold_from n s.row v.name) (filter (λ (u : Use). bytes_eq u.at.event s.event) (uses_of scope v))

-- what transactions hold that are numbered from n on
abbrev pub holds_from : Scope → ℕ → List Start → List Hold
holds_from scope n [] = []
holds_from scope n (s ∷ starts) = flat_map (holds_by scope n s) scope.invocations ++ holds_from scope (suc n) starts

abbrev pub holds_of : Scope → List Start → List Hold
holds_of scope starts = holds_from scope 0 starts

-- of one event of an instance, one ends before or where the other starts
abbrev pub NeverMeet : Hold → Hold → Type 0
NeverMeet h k = h.inst ≡ k.inst → h.event ≡ k.event → (h.to ≤ k.from) ⊎ (k.to ≤ h.from)

-- the instance's event is held in the row
abbrev pub IsHeldIn : ℕ → Hold → Type 0
IsHeldIn row h = (h.from ≤ row) × (row < h.to)

-- the event of a transaction of the component, by its number
abbrev pub start_of : Component → Tx → Option Start
start_of c tx = option_map (λ (e : Event). record { event = e.name; row = tx.start }) (slice_get c.events tx.event)
