-- What the wires of a Filament component do in a run, row by row, as its body says it: whatever makes them do so. Filament, PLDI 2023; the words are this
-- project's.
use Rattle.std.specs.Prelude.{◌≡◌, ◌⊎◌, ◌↔◌, ℕ, ◌+◌, ◌<◌, ◌≤◌, false, [], ◌∷◌, ◌++◌, take, slice_get, Some, None, Contains}
use Rattle.std.specs.Option.{option_map_or}
use Rattle.hw_names.specs.Name.{Path, Text, full_name}
use Rattle.hw_prims.specs.Cell.{IsCell}
use Rattle.hw_prims.specs.Row.{Row, Trace}
use Rattle.hw_prims.specs.declared.prim.Primitive.{Primitive}
use Rattle.fil_ast.specs.Primitives.{filament_primitive, is_filament_primitive}
use Rattle.fil_ast.specs.Scope.{Scope, Instance, Invocation, instance_named, instance_signature, invocation_named}
use Rattle.fil_ast.specs.Sharing.{IsUseOf}
use Rattle.fil_ast.specs.Signature.{SigEvent, SigPort, Signature, interface_of}
use Rattle.fil_ast.specs.Timeline.{Interval, Use, interval_at}
use Rattle.fil_ast.specs.Tree.{Component, Connect, Design, ValueTree, InputValue, OutputValue, Literal}
use Rattle.fil_ast.specs.Wires.{whole_scope}

-- ---- components

-- a component in a run: the full names of its own ports and of its instances' ports, and the rows
pub record ComponentRun : Type 0 where
  pub own : Text → Text
  pub cell : Text → Text → Text
  pub height : ℕ
  pub trace : Trace

-- the component's event starts in row t: its interface port is 1
pub record StartsIn (c : Component) (run : ComponentRun) (event : Text) (t : ℕ) : Type 0 where
  pub go : Text
  pub has : interface_of c.interfaces event ≡ Some go
  pub on : run.trace t (run.own go) ≡ 1

-- row r lies in the interval after a start of its event
pub record IsAfterStart (c : Component) (run : ComponentRun) (i : Interval) (r : ℕ) : Type 0 where
  pub start : ℕ
  pub started : StartsIn c run i.event start
  pub from : start + i.from ≤ r
  pub to : r < start + i.to

-- every row counts where the event has no interface port: nothing says when it starts
abbrev pub IsDuring : Component → ComponentRun → Interval → ℕ → Type 0
IsDuring c run i r = IsAfterStart c run i r ⊎ (interface_of c.interfaces i.event ≡ None)

-- in row r the invocation drives the port of its instance with this value: the row lies in the interval in which the port needs it
pub record Drives (scope : Scope) (run : ComponentRun) (inst port : Text) (r : ℕ) (v : Invocation) (value : ValueTree) : Type 0 where
  pub invoked : Contains scope.invocations v
  pub of_inst : v.inst ≡ inst
  pub signature : Signature
  pub signed : instance_signature scope inst ≡ Some signature
  pub place : ℕ
  pub input : SigPort
  pub taken : slice_get signature.ins place ≡ Some input
  pub is_port : input.name ≡ port
  pub given : slice_get v.gives.args place ≡ Some value
  pub need : Interval
  pub needed : interval_at v.gives.times input ≡ Some need
  pub now : IsDuring scope.comp run need r

-- and no other invocation does
pub record DrivesAlone (scope : Scope) (run : ComponentRun) (inst port : Text) (r : ℕ) (v : Invocation) (value : ValueTree) : Type 0 where
  pub drives : Drives scope run inst port r v value
  pub alone : (w : Invocation) (other : ValueTree) → Drives scope run inst port r w other → w ≡ v

-- in row r an invocation starts event `number` of the instance
pub record Starts (scope : Scope) (run : ComponentRun) (inst : Text) (number r : ℕ) : Type 0 where
  pub invocation : Invocation
  pub invoked : Contains scope.invocations invocation
  pub use_at : Use
  pub uses : IsUseOf scope invocation use_at
  pub of_inst : use_at.inst ≡ inst
  pub of_event : use_at.event ≡ number
  pub start : ℕ
  pub started : StartsIn scope.comp run use_at.at.event start
  pub now : start + use_at.at.plus ≡ r

-- the interface port of event `number` of an instance
pub record IsInterfaceOf (scope : Scope) (inst : Text) (number : ℕ) (go : Text) : Type 0 where
  pub signature : Signature
  pub signed : instance_signature scope inst ≡ Some signature
  pub event : SigEvent
  pub at : slice_get signature.events number ≡ Some event
  pub has : event.go ≡ Some go

-- the instance of the invocation of a name
abbrev pub instance_of : Scope → Text → Text
instance_of scope invocation = option_map_or (λ (v : Invocation). v.inst) (invocation_named scope.invocations invocation) []

-- what a row has of a value: at the component's input, or at the output of the invocation's instance
abbrev pub value_seen : Scope → ComponentRun → Row → ValueTree → ℕ
value_seen scope run row (InputValue name) = row (run.own name)
value_seen scope run row (OutputValue invocation port) = row (run.cell (instance_of scope invocation) port)
value_seen scope run row (Literal width value) = value

-- the wires of a component do in each row what its body says
pub record HasWires (scope : Scope) (run : ComponentRun) : Type 0 where
  -- an input of an instance has the value with which one invocation alone drives it; else it is free
  pub arguments : (r : ℕ) → r < run.height → (inst port : Text) (v : Invocation) (value : ValueTree) → DrivesAlone scope run inst port r v value →
      run.trace r (run.cell inst port) ≡ value_seen scope run (run.trace r) value
  -- an interface port of an instance is 1 exactly where an invocation starts its event
  pub starts : (r : ℕ) → r < run.height → (inst : Text) (number : ℕ) (go : Text) → IsInterfaceOf scope inst number go →
      (run.trace r (run.cell inst go) ≡ 1) ↔ Starts scope run inst number r
  -- an output has the value that is connected to it
  pub outputs : (r : ℕ) → r < run.height → (output : Text) (value : ValueTree) → Contains scope.comp.body (Connect output value) →
      run.trace r (run.own output) ≡ value_seen scope run (run.trace r) value

-- ---- designs

-- with component `top` at the empty path, component n stands at this path
pub data Stands (comps : Design) (top : ℕ) : ℕ → Path → Type 0 where
  AtTop : Stands comps top top []
  Within : (n m : ℕ) (path : Path) (c d : Component) (inst : Text) (i : Instance) → Stands comps top n path → slice_get comps n ≡ Some c →
      instance_named (whole_scope (take n comps) c).instances inst ≡ Some i → is_filament_primitive i.made ≡ false → m < n → slice_get comps m ≡ Some d →
      d.name ≡ i.made → Stands comps top m (path ++ inst ∷ [])

-- the component that stands at a path
abbrev pub component_run : Path → ℕ → Trace → ComponentRun
component_run path height trace = record { own = full_name path; cell = λ inst. full_name (path ++ inst ∷ []); height = height; trace = trace }

-- with component `top` at the empty path, each component has such wires, at each path, and each primitive instance is a cell
pub record IsWiredDesign (comps : Design) (top height : ℕ) (trace : Trace) : Type 0 where
  pub wires : (n : ℕ) (path : Path) (c : Component) → Stands comps top n path → slice_get comps n ≡ Some c →
      HasWires (whole_scope (take n comps) c) (component_run path height trace)
  pub primitives : (n : ℕ) (path : Path) (c : Component) (inst : Text) (i : Instance) (prim : Primitive) → Stands comps top n path →
      slice_get comps n ≡ Some c → instance_named (whole_scope (take n comps) c).instances inst ≡ Some i →
      filament_primitive i.made i.params ≡ Some prim → IsCell prim (full_name (path ++ inst ∷ [])) height trace
