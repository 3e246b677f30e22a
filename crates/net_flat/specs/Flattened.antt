-- That a netlist is a design flattened: the name and ports of its top, a cell for each primitive and path, and the same runs with the same Conflicts.
-- This project's.
use Rattle.std.specs.Prelude.{◌≡◌, ◌↔◌, ℕ, true, List, Some, Contains}
use Rattle.hw_names.specs.Name.{Text, Path}
use Rattle.hw_prims.specs.Row.{Row, Trace}
use Rattle.hw_prims.specs.Table.{is_primitive}
use Rattle.net_core.specs.Circuit.{HasConflict}
use Rattle.net_core.specs.Netlist.{CellLine, Netlist}
use Rattle.net_core.specs.NetRun.{NetRun, net_circuit}
use Rattle.cal_ast.specs.CalRun.{BareRun, cal_circuit, bare}
use Rattle.cal_ast.specs.Instances.{component_at}
use Rattle.cal_ast.specs.Keeping.{flat_cell}
use Rattle.cal_ast.specs.Tree.{CellDef, Component, Design}

-- the netlist's cells are those of primitives, at each path below the top
pub record HasCells (design : Design) (top : Component) (n : Netlist) : Type 0 where
  pub all : (path : Path) (c : Component) (cell : CellDef) → component_at design top path ≡ Some c → Contains c.cells cell → is_primitive cell.made ≡ true
      → Contains n.cells (flat_cell path cell)
  pub only : (line : CellLine) → Contains n.cells line
      → (path : Path) × (c : Component) × (cell : CellDef)
      × (component_at design top path ≡ Some c) × Contains c.cells cell × (is_primitive cell.made ≡ true) × (line ≡ flat_cell path cell)

pub record IsFlattened (design : Design) (top : Component) (n : Netlist) : Type 0 where
  pub name : n.name ≡ top.name
  pub ins : n.ins ≡ top.ins
  pub outs : n.outs ≡ top.outs
  pub cells : HasCells design top n
  pub runs : (asked : ℕ) (inputs : Trace) (loads : Text → List ℕ) (height : ℕ) (trace : Trace)
      → NetRun n asked inputs loads height trace ↔ BareRun design top asked inputs loads height trace
  pub conflicts : (t : ℕ) (row : Row) (port : Text) → HasConflict (net_circuit n) t row port ↔ HasConflict (cal_circuit design top bare) t row port
