-- The laws of overlap: a lowered component carries every legal list of transactions. Filament, PLDI 2023; the laws are this project's.
use Rattle.std.specs.Prelude.{ℕ, ◌≤◌, ◌<◌, List, length, Contains}
use Rattle.hw_prims.specs.Row.{Text}
use Rattle.hw_prims.specs.Timed.{CarriesInputs, CarriesOutputs, CarriesStarts, HasDelay, AreLegalTransactions, IsTimed}
use Rattle.hw_prims.specs.Timed.{TimedEvent, TimedPort, TimedSignature}
use Rattle.hw_prims.specs.Timed.{Transaction, end_of}
use Rattle.fil_lower.specs.Separate.{IsSeparate}
use Rattle.fil_lower.specs.inside.Plan.{Use, Plan, behaviour_of_plan}
use Rattle.fil_lower.specs.inside.PlanRules.{IsEvent, IsWellTimed, given_transactions}
use Rattle.fil_lower.specs.inside.Lowered.{LoweredRun, IsLowered, drives, values_where}

-- what a legal list gives an instance is legal for the instance: no two holds of one of its events meet
abbrev pub InnerListsAreLegal : Type 0
InnerListsAreLegal =
    (plan : Plan) → IsWellTimed plan → (txs : List Transaction) → AreLegalTransactions plan.sig txs → (inst : Text) →
    AreLegalTransactions (plan.callee inst).sig (given_transactions plan txs inst)

-- each instance that the component uses keeps its promise
abbrev pub AreTimed : Plan → LoweredRun → Type 0
AreTimed plan run = (call : Use) → Contains plan.uses call → IsTimed (plan.callee call.inst) (run.cell call.inst) run.height run.trace

-- a lowered component over instances that are timed is timed: where rows carry a legal list at its inputs, its outputs have the values of its plain dataflow
abbrev pub LoweredComponentsAreTimed : Type 0
LoweredComponentsAreTimed =
    (plan : Plan) → IsWellTimed plan → (run : LoweredRun) → IsLowered plan run → AreTimed plan run →
    IsTimed (behaviour_of_plan plan) run.own run.height run.trace

-- where starts of a legal list are carried, no two arguments drive one port of an instance in one row
abbrev pub ArgumentsDoNotClash : Type 0
ArgumentsDoNotClash =
    (plan : Plan) → IsWellTimed plan → (run : LoweredRun) → IsLowered plan run → (txs : List Transaction) → AreLegalTransactions plan.sig txs →
    (r : ℕ) → r < run.height → ((s : ℕ) → s ≤ r → CarriesStarts plan.sig run.own (run.trace s) txs s) →
    (inst : Text) (p : TimedPort) → Contains (plan.callee inst).sig.ins p → (value : Use → ℕ) →
    length (values_where (drives run inst p.name r) value plan.uses) < 2

-- where each row carries a legal list at the component's inputs, each row carries at each instance's ports what that list gives the instance
abbrev pub InstancesCarry : Type 0
InstancesCarry =
    (plan : Plan) → IsWellTimed plan → (run : LoweredRun) → IsLowered plan run → AreTimed plan run →
    (txs : List Transaction) → AreLegalTransactions plan.sig txs → ((r : ℕ) → r < run.height → CarriesInputs plan.sig run.own (run.trace r) txs r) →
    (inst : Text) (r : ℕ) → r < run.height →
    CarriesInputs (plan.callee inst).sig (run.cell inst) (run.trace r) (given_transactions plan txs inst) r
    × CarriesOutputs (plan.callee inst) (run.cell inst) (run.trace r) (given_transactions plan txs inst) r

-- each input is needed for a row at least
abbrev pub IsNeeded : TimedSignature → Type 0
IsNeeded sig =
    (p : TimedPort) → Contains sig.ins p → (event : TimedEvent) → IsEvent sig p.event event → (hold : ℕ) → HasDelay event.delay hold → p.from < end_of p hold

-- values of one event feed no other, where this holds of the instances and no interval is empty
abbrev pub ValuesStaySeparate : Type 0
ValuesStaySeparate =
    (plan : Plan) → IsWellTimed plan → ((call : Use) → Contains plan.uses call → IsSeparate (plan.callee call.inst) × IsNeeded (plan.callee call.inst).sig) →
    ((p : TimedPort) → Contains plan.sig.outs p → p.from < p.to) → IsSeparate (behaviour_of_plan plan)
