-- What a component keeps, over its resolved form, and the transactions that it gives its instances. Filament, PLDI 2023; the laws are this project's.
use Rattle.std.specs.Prelude.{◌≡◌, ◌≢◌, ◌⊎◌, ℕ, ◌+◌, ◌≤◌, ◌<◌, ◌==◌, false, List, [], ◌∷◌, flat_map, slice_get, if◌then◌else◌, bytes_eq, Some, AllPairs}
use Rattle.std.specs.Prelude.{Contains}
use Rattle.hw_prims.specs.Row.{Text}
use Rattle.hw_prims.specs.Timed.{Fixed, TimedEvent, TimedPort, TimedSignature, Transaction, HasDelay, end_of}
use Rattle.fil_lower.specs.inside.Plan.{Slot, Source, Input, Literal, Output, Use, Plan, value_of}

-- event number n of the signature
abbrev pub IsEvent : TimedSignature → ℕ → TimedEvent → Type 0
IsEvent sig n event = slice_get sig.events n ≡ Some event

-- the value is there i rows after a start of the component's event n
abbrev pub IsAvailable : Plan → Source → ℕ → ℕ → Type 0
IsAvailable plan (Input name) n i =
    (p : TimedPort) × Contains plan.sig.ins p × (p.name ≡ name) × (p.event ≡ n) × (p.from ≤ i) × (i < p.to)
IsAvailable plan (Literal value) n i = Unit {0}
IsAvailable plan (Output inst slots args port) n i =
    (p : TimedPort) × Contains (plan.callee inst).sig.outs p × (p.name ≡ port) ×
    (s : Slot) × Contains slots s × (s.target ≡ p.event) × (s.event ≡ n) × (s.plus + p.from ≤ i) × (i < s.plus + end_of p s.hold)

-- the invocation whose output the value is, if it is one, is the component's
abbrev pub IsOfUse : Plan → Source → Type 0
IsOfUse plan (Input name) = Unit {0}
IsOfUse plan (Literal value) = Unit {0}
IsOfUse plan (Output inst slots args port) = Contains plan.uses (record { inst = inst; slots = slots; args = args })

-- no input is needed for longer than its event is held
abbrev pub IsShort : TimedSignature → Type 0
IsShort sig =
    (p : TimedPort) → Contains sig.ins p → (event : TimedEvent) → IsEvent sig p.event event → (hold : ℕ) → HasDelay event.delay hold →
    end_of p hold ≤ p.from + hold

-- an invocation holds an event of its callee as long as that one's delay says, and no longer than the component's own event is held; only an event with
-- an interface port can start another's
pub record IsTriggered (plan : Plan) (sig : TimedSignature) (slot : Slot) : Type 0 where
  pub theirs : TimedEvent
  pub is_theirs : IsEvent sig slot.target theirs
  pub held : HasDelay theirs.delay slot.hold
  pub own : TimedEvent
  pub is_own : IsEvent plan.sig slot.event own
  pub delay : ℕ
  pub fixed : own.delay ≡ Fixed delay
  pub within : slot.hold ≤ delay
  pub go : (theirs_go : Text) → theirs.go ≡ Some theirs_go → (own_go : Text) × (own.go ≡ Some own_go)

-- two holds of one event of an instance: by one event of the component that has an interface port, apart in one transaction, and each over before the next
-- transaction makes the other
pub record IsSharedBy (plan : Plan) (s t : Slot) : Type 0 where
  pub event : s.event ≡ t.event
  pub disjoint : (s.plus + s.hold ≤ t.plus) ⊎ (t.plus + t.hold ≤ s.plus)
  pub forth : (own : TimedEvent) (delay : ℕ) → IsEvent plan.sig s.event own → own.delay ≡ Fixed delay → s.plus + s.hold ≤ t.plus + delay
  pub back : (own : TimedEvent) (delay : ℕ) → IsEvent plan.sig s.event own → own.delay ≡ Fixed delay → t.plus + t.hold ≤ s.plus + delay
  pub go : (own : TimedEvent) → IsEvent plan.sig s.event own → (own_go : Text) × (own.go ≡ Some own_go)

-- where two invocations are of one instance, they share each event that both hold
abbrev pub AreShared : Plan → Use → Use → Type 0
AreShared plan a b =
    a.inst ≡ b.inst → (s t : Slot) → Contains a.slots s → Contains b.slots t → s.target ≡ t.target → IsSharedBy plan s t

-- the component keeps Filament's rules of time
pub record IsWellTimed (plan : Plan) : Type 0 where
  pub fixed_ins : (p : TimedPort) → Contains plan.sig.ins p → p.stays ≡ false
  pub fixed_outs : (p : TimedPort) → Contains plan.sig.outs p → p.stays ≡ false
  pub short : (call : Use) → Contains plan.uses call → IsShort (plan.callee call.inst).sig
  -- an invocation starts each event that an input of its callee goes by, and no event twice
  pub triggered : (call : Use) → Contains plan.uses call → (slot : Slot) → Contains call.slots slot → IsTriggered plan (plan.callee call.inst).sig slot
  pub each : (call : Use) → Contains plan.uses call → (p : TimedPort) → Contains (plan.callee call.inst).sig.ins p →
      (slot : Slot) × Contains call.slots slot × (slot.target ≡ p.event)
  pub once : (call : Use) → Contains plan.uses call → AllPairs (λ (s t : Slot). s.target ≢ t.target) call.slots
  pub shared : AllPairs (AreShared plan) plan.uses
  -- an argument is there in each row in which its callee needs it
  pub scoped : (call : Use) → Contains plan.uses call → (port : Text) → IsOfUse plan (call.args port)
  pub needs : (call : Use) → Contains plan.uses call → (slot : Slot) → Contains call.slots slot → (p : TimedPort) →
      Contains (plan.callee call.inst).sig.ins p → p.event ≡ slot.target →
      (i : ℕ) → slot.plus + p.from ≤ i → i < slot.plus + end_of p slot.hold → IsAvailable plan (call.args p.name) slot.event i
  -- what an output is connected to is there in each row in which the output is promised
  pub outputs_scoped : (port : Text) → IsOfUse plan (plan.outputs port)
  pub connected : (p : TimedPort) → Contains plan.sig.outs p → (i : ℕ) → p.from ≤ i → i < p.to → IsAvailable plan (plan.outputs p.name) p.event i

-- the transaction of an instance that a transaction of the component makes by a slot of an invocation
abbrev pub given_by : Plan → Transaction → Use → Slot → Transaction
given_by plan tx call slot =
    record { event = slot.target; start = tx.start + slot.plus; hold = slot.hold; values = λ p. value_of plan.callee tx.values (call.args p) }

abbrev pub given_by_slot : Plan → Transaction → Use → Slot → List Transaction
given_by_slot plan tx call slot = if slot.event == tx.event then given_by plan tx call slot ∷ [] else []

abbrev pub given_by_use : Plan → Text → Transaction → Use → List Transaction
given_by_use plan inst tx call = if bytes_eq call.inst inst then flat_map (given_by_slot plan tx call) call.slots else []

-- the transactions of an instance in transactions of its component
abbrev pub given_transactions : Plan → List Transaction → Text → List Transaction
given_transactions plan txs inst = flat_map (λ (tx : Transaction). flat_map (given_by_use plan inst tx) plan.uses) txs
