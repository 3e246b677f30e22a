-- What the rows of a lowered component show, whatever cells it is made of. Filament, PLDI 2023; the laws are this project's.
use Rattle.std.specs.Prelude.{◌≡◌, ◌↔◌, ℕ, ◌+◌, ◌≤◌, ◌<◌, ◌&&◌, Bool, true, List, [], ◌∷◌, if◌then◌else◌, bytes_eq, Some, None, Contains}
use Rattle.hw_prims.specs.Row.{Text, Row, Trace}
use Rattle.hw_prims.specs.Timed.{TimedEvent, TimedPort, end_of}
use Rattle.net_core.specs.Circuit.{settled}
use Rattle.fil_lower.specs.inside.Plan.{Slot, Source, Input, Literal, Output, Use, Plan}
use Rattle.fil_lower.specs.inside.PlanRules.{IsEvent}

-- the rows of a lowered component: the full names of its own ports and of its instances' ports, and whether an invocation's argument drives a port of the
-- instance in a row
pub record LoweredRun : Type 0 where
  pub own : Text → Text
  pub cell : Text → Text → Text
  pub feeds : Use → Text → ℕ → Bool
  pub height : ℕ
  pub trace : Trace

-- the component's event n starts in row u: its interface port is 1
pub record StartsIn (plan : Plan) (run : LoweredRun) (n u : ℕ) : Type 0 where
  pub event : TimedEvent
  pub is : IsEvent plan.sig n event
  pub go : Text
  pub has : event.go ≡ Some go
  pub on : run.trace u (run.own go) ≡ 1

-- what a row has at the port that a value is read from
abbrev pub source_in : LoweredRun → Row → Source → ℕ
source_in run row (Input port) = row (run.own port)
source_in run row (Literal n) = n
source_in run row (Output inst slots args port) = row (run.cell inst port)

-- whether the argument of an invocation drives this port of the instance in row r
abbrev pub drives : LoweredRun → Text → Text → ℕ → Use → Bool
drives run inst port r call = bytes_eq call.inst inst && run.feeds call port r

-- the values of the invocations that pass the test
abbrev pub values_where : (Use → Bool) → (Use → ℕ) → List Use → List ℕ
values_where test value [] = []
values_where test value (call ∷ uses) = if test call then value call ∷ values_where test value uses else values_where test value uses

-- in each row wires carry what the plan says
pub record IsLowered (plan : Plan) (run : LoweredRun) : Type 0 where
  -- an input of an instance has the argument that drives it
  pub driven : (r : ℕ) → r < run.height → (inst : Text) (p : TimedPort) → Contains (plan.callee inst).sig.ins p →
      run.trace r (run.cell inst p.name)
      ≡ settled (values_where (drives run inst p.name r) (λ (call : Use). source_in run (run.trace r) (call.args p.name)) plan.uses)
  -- an argument on an event with an interface port drives exactly in the rows of the input's interval after a start
  pub fed : (r : ℕ) → r < run.height → (call : Use) → Contains plan.uses call → (slot : Slot) → Contains call.slots slot → (p : TimedPort) →
      Contains (plan.callee call.inst).sig.ins p → p.event ≡ slot.target →
      (event : TimedEvent) (go : Text) → IsEvent plan.sig slot.event event → event.go ≡ Some go →
      (run.feeds call p.name r ≡ true) ↔ ((u : ℕ) × StartsIn plan run slot.event u × (u + slot.plus + p.from ≤ r) × (r < u + slot.plus + end_of p slot.hold))
  -- and on an event without one in all rows
  pub always : (r : ℕ) → r < run.height → (call : Use) → Contains plan.uses call → (slot : Slot) → Contains call.slots slot → (p : TimedPort) →
      Contains (plan.callee call.inst).sig.ins p → p.event ≡ slot.target →
      (event : TimedEvent) → IsEvent plan.sig slot.event event → event.go ≡ None → run.feeds call p.name r ≡ true
  -- an interface port of an instance is 1 exactly where an invocation starts its event
  pub started : (r : ℕ) → r < run.height → (inst : Text) (n : ℕ) (event : TimedEvent) (go : Text) → IsEvent (plan.callee inst).sig n event →
      event.go ≡ Some go →
      (run.trace r (run.cell inst go) ≡ 1)
      ↔ ((call : Use) × Contains plan.uses call × (call.inst ≡ inst) × (slot : Slot) × Contains call.slots slot × (slot.target ≡ n) × (u : ℕ) ×
      (u + slot.plus ≡ r) × StartsIn plan run slot.event u)
  -- an output has the value that it is connected to
  pub connected : (r : ℕ) → r < run.height → (p : TimedPort) → Contains plan.sig.outs p →
      run.trace r (run.own p.name) ≡ source_in run (run.trace r) (plan.outputs p.name)
