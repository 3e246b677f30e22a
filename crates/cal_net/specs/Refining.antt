-- What a netlist keeps of the Calyx design that it is made from. This project's.
use Rattle.std.specs.Prelude.{◌≡◌, ◌⊎◌, ℕ, true, false, List, slice_get, Some, Contains}
use Rattle.hw_names.specs.Name.{Text, Path, IsPlain}
use Rattle.hw_prims.specs.Meaning.{is_stateless}
use Rattle.hw_prims.specs.Table.{prim_of}
use Rattle.hw_prims.specs.declared.prim.Primitive.{Primitive}
use Rattle.net_core.specs.Netlist.{CellLine, Netlist}
use Rattle.net_core.specs.Rules.{PortLine, ports_of}
use Rattle.net_sim.specs.Shown.{shown_cells}
use Rattle.cal_ast.specs.Instances.{component_at}
use Rattle.cal_ast.specs.Keeping.{IsSourceCell, Refines, flat_cell}
use Rattle.cal_ast.specs.Ports.{is_bare, width_in}
use Rattle.cal_ast.specs.Schedule.{IsPortOf}
use Rattle.cal_ast.specs.Top.{IsTop}
use Rattle.cal_ast.specs.Tree.{CellDef, Component, Design}
use Rattle.cal_ast.specs.Registers.{AreFewRegisters}
use Rattle.cal_net.specs.Face.{face}

-- the netlist has this port of the design, by its full name, and as wide as it is where a line of its instance names it
pub record HasPort (design : Design) (top : Component) (n : Netlist) (name : Text) (port : IsPortOf design top name) : Type 0 where
  pub line : PortLine
  pub among : Contains (ports_of n) line
  pub named : line.name ≡ name
  pub wide : width_in design port.c port.p ≡ Some line.width

-- the cell is one of a primitive without a state
abbrev pub IsStatelessLine : CellLine → Type 0
IsStatelessLine line = (prim : Primitive) × (prim_of line.prim line.params ≡ Some prim) × (is_stateless prim ≡ true)

-- the cell stands directly at the path of an instance that control starts, and is one of those that were added there
pub record IsControlCell (design : Design) (top : Component) (added : Path → List CellDef) (line : CellLine) : Type 0 where
  pub path : Path
  pub c : Component
  pub at : component_at design top path ≡ Some c
  pub started : is_bare c ≡ false
  pub cell : CellDef
  pub has : Contains (added path) cell
  pub plain : IsPlain cell.name
  pub is : line ≡ flat_cell path cell

-- each cell of the netlist is one of the source, or has no state, or is one of those that were added at an instance that control starts, of which few are
-- registers
pub record HasFewControlRegisters (design : Design) (top : Component) (n : Netlist) : Type 0 where
  pub added : Path → List CellDef
  pub few : (path : Path) (c : Component) → component_at design top path ≡ Some c → is_bare c ≡ false → AreFewRegisters c (added path)
  pub cells : (line : CellLine) → Contains n.cells line →
      IsSourceCell design top line ⊎ (IsStatelessLine line ⊎ IsControlCell design top added line)

-- the netlist keeps N1 to N6, shows what the design below this top does, has each of its ports with its width, its shown memories are the top's observable
-- ones, in the order of the text, and the control of each instance has become few registers, which stand there, beside which nothing that is added has a state
pub record RefinesFrom (design : Design) (top : Component) (n : Netlist) : Type 0 where
  pub refines : Refines design top n
  pub ports : (name : Text) (port : IsPortOf design top name) → HasPort design top n name port
  pub memories : shown_cells n ≡ (face top).cells
  pub registers : HasFewControlRegisters design top n

-- the same from the design's own top component
pub record RefinesTop (design : Design) (n : Netlist) : Type 0 where
  pub number : ℕ
  pub is_top : IsTop design number
  pub top : Component
  pub at : slice_get design number ≡ Some top
  pub refines : RefinesFrom design top n
