-- What is compiled so far: the truths of tests, the drivers of ports, and the slots of ports. This project's.
use Rattle.std.specs.Prelude.{◌≡◌, ◌↔◌, ℕ, ◌+◌, zero, suc, true, false, List, length, Option, Some, slice_get, slice_index}
use Rattle.net_core.specs.Netlist.{Netlist}
use Rattle.net_core.specs.NetRun.{values_for}
use Rattle.net_sim.specs.Evaluated.{IsValueOf, Clashes, source_number}
use Rattle.net_sim.specs.Layout.{port_names, name_of}
use Rattle.net_sim.specs.Plan.{IsCompiled}
use Rattle.net_sim.specs.Sim.{input_row, port_row, states_of}
use Rattle.net_sim.specs.Tests.{AreGuards, Leads, end_of}
use Rattle.net_sim.specs.declared.guards.Test.{Test}
use Rattle.net_sim.specs.declared.plan.Source.{Source}
use Rattle.net_steps.specs.Conflicts.{Clashes as ClashesIn}
use Rattle.net_steps.specs.Drivers.{acting}
use Rattle.net_steps.specs.Steps.{Extends}
use Rattle.net_steps.specs.StepsValue.{StepsValue}
use Rattle.net_steps.specs.Truths.{is_true}
use Rattle.net_steps.specs.declared.clashes.Clash.{Clash}
use Rattle.net_steps.specs.declared.drivers.Driver.{Driver}
use Rattle.net_steps.specs.declared.truth.Truth.{Truth}
use Rattle.net_steps.specs.declared.truth.Truth.TheVariants.{Fixed}
use Rattle.net_row.specs.Kinds.{kinds_of, kept_in}
use Rattle.net_row.specs.Rows.{Frame, SlotRow, InEachRow, AreFitting, states_in}
use Rattle.net_row.specs.declared.compile.Made.{Made}
use Rattle.net_row.specs.declared.compile.Numbered.{Numbered}

abbrev pub frame_of : Netlist → Numbered → Frame
frame_of n numbered = record { net = n; cells = numbered.cells.now }

-- the netlist by numbers
pub record IsNumbered (n : Netlist) (numbered : Numbered) : Type 0 where
  pub compiled : IsCompiled n numbered.order.now numbered.cells.now numbered.sources.items numbered.givers.items
  pub kinds : numbered.kinds.of_cells.items ≡ kinds_of numbered.cells.now
  pub kept : numbered.kinds.kept ≡ kept_in numbered.cells.now
  pub guards : AreGuards n numbered.guards.tests.items numbered.guards.starts.items
  pub first_tests : length numbered.first_tests.items ≡ length n.sets
  pub ports : numbered.ports ≡ length (port_names n)

-- ---- sources

-- the slot has the value of the source
abbrev pub IsSourceValue : Source → ℕ → SlotRow → List ℕ → Type 0
IsSourceValue source slot row values = slice_index row.slots slot ≡ source_number values source

-- steps were added that make the value of a source
pub record AddsSource (old new : StepsValue) (ports : List (Option ℕ)) (source : Source) (slot : ℕ) : Type 0 where
  pub extends : Extends old new
  pub made : (f : Frame) → InEachRow f new ports (IsSourceValue source slot)

-- ---- tests of guards

-- the tests lead from this number to the end that the truth tells
abbrev pub LeadsByTruth : List Test → ℕ → Truth → SlotRow → List ℕ → Type 0
LeadsByTruth tests number truth row values = Leads tests values (end_of (is_true row.slots truth)) number

-- each test that has a truth leads on by it; the first test has number 2, after the ends
abbrev pub AreTruths : Frame → StepsValue → List (Option ℕ) → List Test → List (Option Truth) → Type 0
AreTruths f steps ports tests truths =
    (k : ℕ) (truth : Truth) → slice_get truths k ≡ Some (Some truth) → InEachRow f steps ports (LeadsByTruth tests (k + 2) truth)

-- the truth of an end, or of the test with this number
abbrev pub IsTruthAt : List (Option Truth) → ℕ → Truth → Type 0
IsTruthAt truths zero truth = truth ≡ Fixed false
IsTruthAt truths (suc zero) truth = truth ≡ Fixed true
IsTruthAt truths (suc (suc k)) truth = slice_get truths k ≡ Some (Some truth)

-- steps were added that make the truth of a test
pub record AddsTest (old new : StepsValue) (ports : List (Option ℕ)) (truths : List (Option Truth)) (test : Test) (truth : Truth) : Type 0 where
  pub extends : Extends old new
  pub made : (f : Frame) (tests : List Test) (k : ℕ) → slice_get tests k ≡ Some test → AreTruths f old ports tests truths →
      InEachRow f new ports (LeadsByTruth tests (k + 2) truth)

-- ---- drivers

-- what acts of the drivers is what drives the port
abbrev pub AreActing : Netlist → ℕ → List Driver → SlotRow → List ℕ → Type 0
AreActing n port drivers row values = acting row.slots drivers ≡ values_for (name_of n port) (port_row n values) n.sets

-- ---- ports

-- the slot has the value that a row asks of the port
abbrev pub IsPortValue : Frame → (port slot : ℕ) → SlotRow → List ℕ → Type 0
IsPortValue f port slot row values =
    IsValueOf f.net (input_row f.net row.inputs) (states_of f.net (states_in f row)) (port_row f.net values) (name_of f.net port)
    (slice_index row.slots slot)

-- the port has a Conflict where one of these clashes tells it
abbrev pub IsTold : Netlist → List Clash → ℕ → SlotRow → List ℕ → Type 0
IsTold n clashes port row values = Clashes n (port_row n values) port ↔ ClashesIn clashes row.slots port

abbrev pub HasSlot : List (Option ℕ) → ℕ → Type 0
HasSlot ports port = (slot : ℕ) × (slice_get ports port ≡ Some (Some slot))

-- each port that has a slot has its value there, which fits its width, and its Conflicts are told; only those of such ports are
pub record ArePorts (f : Frame) (steps : StepsValue) (ports : List (Option ℕ)) (clashes : List Clash) : Type 0 where
  pub fit : AreFitting f steps ports
  pub values : (port slot : ℕ) → slice_get ports port ≡ Some (Some slot) → InEachRow f steps ports (IsPortValue f port slot)
  pub told : (port slot : ℕ) → slice_get ports port ≡ Some (Some slot) → InEachRow f steps ports (IsTold f.net clashes port)
  pub others : (k : ℕ) (clash : Clash) → slice_get clashes k ≡ Some clash → HasSlot ports clash.port

-- what is compiled so far
pub record IsMadeOf (n : Netlist) (numbered : Numbered) (made : Made) : Type 0 where
  pub base : made.steps.base ≡ kept_in numbered.cells.now + length n.ins
  pub count : length made.ports.slots.items ≡ length (port_names n)
  pub ports : ArePorts (frame_of n numbered) made.steps made.ports.slots.items made.clashes.items
  pub tests : length made.truths.of_tests.items ≡ length numbered.guards.tests.items
  pub truths : AreTruths (frame_of n numbered) made.steps made.ports.slots.items numbered.guards.tests.items made.truths.of_tests.items
