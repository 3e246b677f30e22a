-- A component whose names are resolved: its signature, what its instances promise, its invocations, and its plain dataflow. Filament, PLDI 2023;
-- the laws are this project's.
use Rattle.std.specs.Prelude.{ℕ, List}
use Rattle.hw_prims.specs.Row.{Text}
use Rattle.hw_prims.specs.Timed.{Behaviour, TimedSignature, Values}

-- what an invocation puts in the place of the callee's event `target`: it starts it `plus` rows after the component's event `event`, and holds it for
-- `hold` rows
pub record Slot : Type 0 where
  pub target : ℕ
  pub event : ℕ
  pub plus : ℕ
  pub hold : ℕ

-- a value, unfolded: an output of an invocation has below it what that invocation gives its callee
pub data Source : Type 0 where
  Input : Text → Source
  Literal : ℕ → Source
  Output : (inst : Text) (slots : List Slot) (args : Text → Source) (port : Text) → Source

-- an invocation: the instance, when it starts the instance's events, and the argument for each of the instance's inputs
pub record Use : Type 0 where
  pub inst : Text
  pub slots : List Slot
  pub args : Text → Source

-- a component: what each instance promises, its invocations in text order, and what each output is connected to
pub record Plan : Type 0 where
  pub sig : TimedSignature
  pub callee : Text → Behaviour
  pub uses : List Use
  pub outputs : Text → Source

-- the plain dataflow of a value, from the values of the component's inputs
abbrev pub value_of : (Text → Behaviour) → Values → Source → ℕ
value_of callee values (Input port) = values port
value_of callee values (Literal n) = n
value_of callee values (Output inst slots args port) = (callee inst).flow (λ p. value_of callee values (args p)) port

-- what the component promises in its turn
abbrev pub behaviour_of_plan : Plan → Behaviour
behaviour_of_plan plan = record { sig = plan.sig; flow = λ values output. value_of plan.callee values (plan.outputs output) }
