-- Hierarchies that are the same but for the names of their components. This project's.
use Rattle.std.specs.Prelude.{◌≡◌, ◌⊎◌, ◌↔◌, ℕ, false, List, Option, Some, None}
use Rattle.std.specs.List.{AllZip}
use Rattle.hw_names.specs.Name.{Text, Path}
use Rattle.hw_prims.specs.Row.{Row, Trace}
use Rattle.hw_prims.specs.Table.{is_primitive}
use Rattle.net_core.specs.Circuit.{HasConflict}
use Rattle.cal_ast.specs.CalRun.{BareRun, StoppedBareRun, bare, cal_circuit}
use Rattle.cal_ast.specs.Instances.{component_at}
use Rattle.cal_ast.specs.Schedule.{Run}
use Rattle.cal_ast.specs.Tree.{CellDef, Component, Design}

-- both cells are of one primitive, or both of no primitive; all else is the same
pub record IsSameCell (a b : CellDef) : Type 0 where
  pub name : a.name ≡ b.name
  pub params : a.params ≡ b.params
  pub external : a.external ≡ b.external
  pub made : (a.made ≡ b.made) ⊎ ((is_primitive a.made ≡ false) × (is_primitive b.made ≡ false))

-- the components have the same ports, lines and control, and the same cells in their order
pub record IsSameComponent (c d : Component) : Type 0 where
  pub ins : c.ins ≡ d.ins
  pub outs : c.outs ≡ d.outs
  pub cells : AllZip IsSameCell c.cells d.cells
  pub groups : c.groups ≡ d.groups
  pub sets : c.sets ≡ d.sets
  pub control : c.control ≡ d.control

-- at a path there is an instance in neither hierarchy, or in both, and their components are the same
abbrev pub AreSamePlaces : Option Component → Option Component → Type 0
AreSamePlaces None None = Unit {0}
AreSamePlaces (Some c) (Some d) = IsSameComponent c d
AreSamePlaces c d = ⊥

-- so at each path below the two components, and at these themselves
abbrev pub IsSameBelow : Design → Component → Design → Component → Type 0
IsSameBelow design c other d = (path : Path) → AreSamePlaces (component_at design c path) (component_at other d path)

-- from these components as tops, the runs are the same, and so are the Conflicts and how the runs stop, where wires alone act and where control does
pub record HaveSameRuns (design : Design) (c : Component) (other : Design) (d : Component) : Type 0 where
  pub bare_runs : (asked : ℕ) (inputs : Trace) (loads : Text → List ℕ) (height : ℕ) (trace : Trace) →
      BareRun design c asked inputs loads height trace ↔ BareRun other d asked inputs loads height trace
  pub bare_conflicts : (t : ℕ) (row : Row) (port : Text) →
      HasConflict (cal_circuit design c bare) t row port ↔ HasConflict (cal_circuit other d bare) t row port
  pub bare_stops : (asked : ℕ) (inputs : Trace) (loads : Text → List ℕ) (height : ℕ) (trace : Trace) (stop : Option Text) →
      StoppedBareRun design c asked inputs loads height trace stop ↔ StoppedBareRun other d asked inputs loads height trace stop
  pub runs : (asked : ℕ) (inputs : Trace) (loads : Text → List ℕ) (height : ℕ) (trace : Trace) (stop : Option Text) →
      Run design c asked inputs loads height trace stop ↔ Run other d asked inputs loads height trace stop
