-- That each name of a design is a number of its list of names. This project's.
use Rattle.std.specs.Prelude.{List, All, Option, Some, None, IfSome}
use Rattle.hw_names.specs.Name.{Text}
use Rattle.net_core.specs.Numbers.{IsNumberOf}
use Rattle.net_core.specs.declared.net.Guard.{Row_of-Guard, end_of-Guard, more_of-Guard}
use Rattle.net_core.specs.declared.net.Guard as code
use Rattle.net_core.specs.declared.net.Src.{Src}
use Rattle.net_core.specs.declared.net.Src.TheVariants.{Port, Lit}
use Rattle.cal_ast.specs.declared.lowered.ActRule.{ActRule}
use Rattle.cal_ast.specs.declared.tree.CalPort.{CalPort}
use Rattle.cal_ast.specs.declared.tree.CalPin.{CalPin}
use Rattle.cal_ast.specs.declared.tree.CalCell.{CalCell}
use Rattle.cal_ast.specs.declared.tree.Assign.{Assign}
use Rattle.cal_ast.specs.declared.tree.DoneSet.{DoneSet}
use Rattle.cal_ast.specs.declared.tree.Group.{Group}
use Rattle.cal_ast.specs.declared.tree.InBind.{InBind}
use Rattle.cal_ast.specs.declared.tree.OutBind.{OutBind}
use Rattle.cal_ast.specs.declared.tree.Control.{Control, Row_of-Control, end_of-Control, more_of-Control}
use Rattle.cal_ast.specs.declared.tree.Control as control
use Rattle.cal_ast.specs.declared.tree.ControlPart.{ControlPart}
use Rattle.cal_ast.specs.declared.tree.ControlPart.TheVariants as part
use Rattle.cal_ast.specs.declared.tree.CalComp.{CalComp}
use Rattle.cal_ast.specs.declared.tree.CalDesign.{CalDesign}

abbrev pub PortHasNumbers : List Text → CalPort → Type 0
PortHasNumbers names p = IfSome p.cell (IsNumberOf names) × IsNumberOf names p.port

abbrev pub SourceHasNumbers : List Text → Src CalPort → Type 0
SourceHasNumbers names (Port p) = PortHasNumbers names p
SourceHasNumbers names (Lit width value) = Unit {0}

abbrev mutual
  pub GuardHasNumbers : List Text → code.Guard CalPort → Type 0
  GuardHasNumbers names (code.Read s) = SourceHasNumbers names s.value
  GuardHasNumbers names (code.Test op a b) = SourceHasNumbers names a.value × SourceHasNumbers names b.value
  GuardHasNumbers names (code.Not' p g) = GuardHasNumbers names g
  GuardHasNumbers names (code.All' shape gs) = GuardsHaveNumbers names gs
  GuardHasNumbers names (code.Any' shape gs) = GuardsHaveNumbers names gs

  pub GuardsHaveNumbers : {m : _} → List Text → Row_of-Guard CalPort m → Type 0
  GuardsHaveNumbers names end_of-Guard = Unit {0}
  GuardsHaveNumbers names (more_of-Guard g gs) = GuardHasNumbers names g × GuardsHaveNumbers names gs

abbrev pub WhenHasNumbers : List Text → Option (code.Guard CalPort) → Type 0
WhenHasNumbers names None = Unit {0}
WhenHasNumbers names (Some g) = GuardHasNumbers names g

abbrev pub PinHasNumber : List Text → CalPin → Type 0
PinHasNumber names p = IsNumberOf names p.name

abbrev pub CellHasNumbers : List Text → CalCell → Type 0
CellHasNumbers names c = IsNumberOf names c.name × IsNumberOf names c.made

abbrev pub SetHasNumbers : List Text → Assign → Type 0
SetHasNumbers names a = PortHasNumbers names a.dst × WhenHasNumbers names a.guard × SourceHasNumbers names a.src

abbrev pub DoneHasNumbers : List Text → DoneSet → Type 0
DoneHasNumbers names d = IsNumberOf names d.of × WhenHasNumbers names d.guard × SourceHasNumbers names d.src

pub record GroupHasNumbers (names : List Text) (g : Group) : Type 0 where
  pub name : IsNumberOf names g.name
  pub sets : All (SetHasNumbers names) g.sets.items
  pub dones : All (DoneHasNumbers names) g.dones.items

abbrev pub InHasNumbers : List Text → InBind → Type 0
InHasNumbers names b = IsNumberOf names b.port × SourceHasNumbers names b.src

abbrev pub OutHasNumbers : List Text → OutBind → Type 0
OutHasNumbers names b = IsNumberOf names b.port × PortHasNumbers names b.dst

abbrev mutual
  pub StatementHasNumbers : List Text → Control → Type 0
  StatementHasNumbers names (control.Enable g) = IsNumberOf names g
  StatementHasNumbers names (control.Seq' shape ss) = StatementsHaveNumbers names ss
  StatementHasNumbers names (control.Par' shape ss) = StatementsHaveNumbers names ss
  StatementHasNumbers names (control.If' port by p s q t) =
      PortHasNumbers names port × IfSome by (IsNumberOf names) × StatementHasNumbers names s × StatementHasNumbers names t
  StatementHasNumbers names (control.While' port by p s) = PortHasNumbers names port × IfSome by (IsNumberOf names) × StatementHasNumbers names s
  StatementHasNumbers names (control.Invoke cell ins outs) = IsNumberOf names cell × All (InHasNumbers names) ins.items × All (OutHasNumbers names) outs.items

  pub StatementsHaveNumbers : {m : _} → List Text → Row_of-Control m → Type 0
  StatementsHaveNumbers names end_of-Control = Unit {0}
  StatementsHaveNumbers names (more_of-Control s ss) = StatementHasNumbers names s × StatementsHaveNumbers names ss

abbrev pub ControlHasNumbers : List Text → ControlPart → Type 0
ControlHasNumbers names part.Absent = Unit {0}
ControlHasNumbers names part.Empty = Unit {0}
ControlHasNumbers names (part.Body s) = StatementHasNumbers names s

pub record ComponentHasNumbers (names : List Text) (c : CalComp) : Type 0 where
  pub name : IsNumberOf names c.name
  pub ins : All (PinHasNumber names) c.ins.items
  pub outs : All (PinHasNumber names) c.outs.items
  pub cells : All (CellHasNumbers names) c.cells.items
  pub groups : All (GroupHasNumbers names) c.groups.items
  pub sets : All (SetHasNumbers names) c.sets.items
  pub control : ControlHasNumbers names c.control

abbrev pub HasNumbers : CalDesign → Type 0
HasNumbers d = All (ComponentHasNumbers d.names) d.comps.items

-- each name of a rule by which a group acts
abbrev pub RuleHasNumbers : List Text → ActRule → Type 0
RuleHasNumbers names r = IsNumberOf names r.group × GuardHasNumbers names r.when
