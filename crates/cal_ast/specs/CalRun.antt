-- A hierarchical design as a circuit, and its run, given which assignments act. Calyx, ASPLOS 2021, with this project's rows.
use Rattle.std.specs.Prelude.{◌≡◌, ◌⊎◌, ℕ, ◌&&◌, Bool, false, List, [], ◌∷◌, if◌then◌else◌, bytes_eq, codes, Option, Some, Contains}
use Rattle.hw_names.specs.Name.{Text, Path, full_name, port_at}
use Rattle.hw_prims.specs.Row.{Row, Trace}
use Rattle.hw_prims.specs.Table.{pin_names}
use Rattle.net_core.specs.Circuit.{Circuit, Drive, IsRun, Stops}
use Rattle.net_core.specs.Guard.{guard_holds, source_value}
use Rattle.cal_ast.specs.Instances.{component_at, port_name, IsPrimitiveCell}
use Rattle.cal_ast.specs.Ports.{is_bare, inputs_in}
use Rattle.cal_ast.specs.Sides.{IsDestination}
use Rattle.cal_ast.specs.Tree.{PortName, Assignment, Component, Design}

-- what control does at the instance of a component at a path: the assignments that act in a row with these values, and whether the done of one that
-- isn't bare is 1 in the row
pub record Activity : Type 0 where
  pub sets : Path → Component → ℕ → Row → List Assignment
  pub done : Path → Component → ℕ → Bool

-- the value of a port that the component at the path names
abbrev pub look : Path → Row → PortName → ℕ
look path row p = row (port_name path p)

-- the values of the assignments at the path, of these, that drive the port and whose guards are true
abbrev pub values_for : Path → Text → Row → List Assignment → List ℕ
values_for path port row [] = []
values_for path port row (a ∷ sets) =
    if bytes_eq (port_name path a.dst) port && guard_holds (look path row) a.guard then source_value (look path row) a.src ∷ values_for path port row sets
    else values_for path port row sets

-- a port that the acting assignments of an instance drive
pub record IsAssigned (design : Design) (top : Component) (activity : Activity) (port : Text) (drive : Drive) : Type 0 where
  pub path : Path
  pub c : Component
  pub at : component_at design top path ≡ Some c
  pub cell : Option Text
  pub pin : Text
  pub sink : IsDestination design c (record { cell = cell; pin = pin })
  pub named : port_at path cell pin ≡ port
  pub drives : drive ≡ (λ t row. values_for path port row (activity.sets path c t row))

-- the done of an instance that isn't bare, to which its control gives one value, so that it has no Conflict
pub record IsControlled (design : Design) (top : Component) (activity : Activity) (port : Text) (drive : Drive) : Type 0 where
  pub path : Path
  pub c : Component
  pub at : component_at design top path ≡ Some c
  pub control : is_bare c ≡ false
  pub named : full_name path (codes "done") ≡ port
  pub drives : drive ≡ (λ t row. (if activity.done path c t then 1 else 0) ∷ [])

abbrev pub cal_circuit : Design → Component → Activity → Circuit
cal_circuit design top activity =
    record {
      Input = Contains (pin_names (inputs_in top));
      Sink = λ port drive. IsAssigned design top activity port drive ⊎ IsControlled design top activity port drive;
      Cell = IsPrimitiveCell design top;
    }

-- the run of the design from this top, for `asked` rows of inputs, from these words in its memories
abbrev pub RunWith : Design → Component → Activity → ℕ → Trace → (Text → List ℕ) → ℕ → Trace → Type 0
RunWith design top activity = IsRun (cal_circuit design top activity)

-- a run of a circuit, and how it stops: with no Conflict, or with this port reported for its last row
pub record IsStoppedRun (c : Circuit) (asked : ℕ) (inputs : Trace) (loads : Text → List ℕ)
    (height : ℕ) (trace : Trace) (stop : Option Text) : Type 0 where
  pub run : IsRun c asked inputs loads height trace
  pub stops : Stops c height trace stop

-- the run of the design with its stop
abbrev pub StoppedRunWith : Design → Component → Activity → ℕ → Trace → (Text → List ℕ) → ℕ → Trace → Option Text → Type 0
StoppedRunWith design top activity = IsStoppedRun (cal_circuit design top activity)

-- the continuous assignments act, and they alone
abbrev pub bare : Activity
bare = record { sets = λ path c t row. c.sets; done = λ path c t. false }

-- the run of a design whose components are bare, and the same with its stop
abbrev pub BareRun : Design → Component → ℕ → Trace → (Text → List ℕ) → ℕ → Trace → Type 0
BareRun design top = RunWith design top bare

abbrev pub StoppedBareRun : Design → Component → ℕ → Trace → (Text → List ℕ) → ℕ → Trace → Option Text → Type 0
StoppedBareRun design top = StoppedRunWith design top bare
