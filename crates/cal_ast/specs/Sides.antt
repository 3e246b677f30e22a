-- C5 and C6: what a component may drive, and what it may read. Calyx documentation; the numbers are this project's.
use Rattle.std.specs.Prelude.{◌≡◌, false, codes, Option, Some, None, All}
use Rattle.hw_names.specs.Name.{Text}
use Rattle.net_core.specs.Graph.{option_ports, source_ports}
use Rattle.cal_ast.specs.Ports.{is_bare, is_own, Side, Input, Output, side_in}
use Rattle.cal_ast.specs.Statement.{IfCondition, IfInvoke}
use Rattle.cal_ast.specs.Tree.{PortName, Assignment, DoneLine, InBinding, OutBinding, Statement, Component, Design}

-- assignments of a component drive its own outputs and its cells' inputs, and read its own inputs and its cells' outputs
abbrev pub driven_side : Option Text → Side
driven_side None = Output
driven_side (Some cell) = Input

abbrev pub read_side : Option Text → Side
read_side None = Input
read_side (Some cell) = Output

-- an output of the component, but not the done of one that isn't bare, or an input of a cell
pub record IsDestination (design : Design) (c : Component) (p : PortName) : Type 0 where
  pub side : side_in design c p ≡ Some (driven_side p.cell)
  pub not_done : is_bare c ≡ false → is_own (codes "done") p ≡ false

-- an input of the component, or an output of a cell
abbrev pub IsSource : Design → Component → PortName → Type 0
IsSource design c p = side_in design c p ≡ Some (read_side p.cell)

-- C5 at an assignment
abbrev pub DrivesDestination : Design → Component → Assignment → Type 0
DrivesDestination design c a = IsDestination design c a.dst

-- C6 at an assignment, and at a done line
abbrev pub ReadsSources : Design → Component → Assignment → Type 0
ReadsSources design c a = All (IsSource design c) (option_ports a.guard) × All (IsSource design c) (source_ports a.src)

abbrev pub DoneReadsSources : Design → Component → DoneLine → Type 0
DoneReadsSources design c d = All (IsSource design c) (option_ports d.guard) × All (IsSource design c) (source_ports d.src)

-- C5 at a control statement: where an invoke puts an output
abbrev pub StatementDrives : Design → Component → Statement → Type 0
StatementDrives design c s = IfInvoke s (λ cell ins outs. All (λ (b : OutBinding). IsDestination design c b.dst) outs)

-- C6 at a control statement: a condition's port, and what an invoke gives an input
pub record StatementReads (design : Design) (c : Component) (s : Statement) : Type 0 where
  pub condition : IfCondition s (λ port by. IsSource design c port)
  pub invoke : IfInvoke s (λ cell ins outs. All (λ (b : InBinding). All (IsSource design c) (source_ports b.src)) ins)
