-- One thing comes of a run that is printed: the same rows, the same text after them, and the same Conflict. This project's.
use Rattle.std.specs.Prelude.{◌≡◌, ℕ, Contains}
use Rattle.hw_names.specs.Name.{Text}
use Rattle.hw_prims.specs.Row.{Row}
use Rattle.hw_prims.specs.State.{State}
use Rattle.hw_prims.specs.declared.prim.Primitive.{Primitive}
use Rattle.net_core.specs.Graph.{HasNoLoop}
use Rattle.net_core.specs.NetRun.{IsNetCell}
use Rattle.net_core.specs.Netlist.{Netlist}
use Rattle.net_core.specs.Rules.{IsValid}
use Rattle.net_sim.specs.Layout.{port_names}
use Rattle.filc_report.specs.Runs.{PrintedRun, RunComes}
use Rattle.filc_stop.specs.Outcome.{Outcome}

-- rows agree at every port of the netlist
abbrev pub AgreeAtPorts : Netlist → Row → Row → Type 0
AgreeAtPorts n row other = (port : Text) → Contains (port_names n) port → row port ≡ other port

-- states agree at every cell of the netlist
abbrev pub AgreeAtCells : Netlist → (Text → Primitive → State) → (Text → Primitive → State) → Type 0
AgreeAtCells n states other = (cell : Text) (prim : Primitive) → IsNetCell n cell prim → states cell prim ≡ other cell prim

-- what is printed shows the netlist: the line of a row depends on its ports alone, and the text after the rows on its cells alone
pub record ShowsItsNetlist (p : PrintedRun) : Type 0 where
  pub line : (t : ℕ) (row other : Row) → AgreeAtPorts p.net row other → p.line t row ≡ p.line t other
  pub last : (states other : Text → Primitive → State) → AgreeAtCells p.net states other → p.last states ≡ p.last other

-- of a netlist that keeps N1 to N6
abbrev pub RunIsOne : Type 0
RunIsOne =
    (p : PrintedRun) → IsValid p.net → HasNoLoop p.net → ShowsItsNetlist p → (o other : Outcome) → RunComes p o → RunComes p other → o ≡ other
