-- What designs are like that some text spells: their names are names of the grammar, their numbers can be written, no list is empty
-- where the grammar asks for one item at least, and what leaves no trace is not there. This project's.
use Rattle.std.specs.Prelude.{◌≢◌, List, [], codes, Option, Some, None}
use Rattle.std.specs.List.{AllByRecursion}
use Rattle.hw_names.specs.Name.{Text}
use Rattle.hw_lex.specs.declared.token.Dialect.TheVariants.{Cal}
use Rattle.hw_grammar.specs.Words.{IsNameOf, IsWritten}
use Rattle.hw_prims.specs.Table.{Pin}
use Rattle.net_core.specs.declared.net.Src.{Src}
use Rattle.net_core.specs.declared.net.Src.TheVariants.{Port, Lit}
use Rattle.net_core.specs.Guard.{GuardTree, Reads, Compares, Negates, AllOf, AnyOf, GuardTrees, NoGuards, MoreGuards}
use Rattle.cal_ast.specs.Holes.{ActivityRule}
use Rattle.cal_ast.specs.Tree.{PortName, CellDef, Assignment, DoneLine, GroupDef, InBinding, OutBinding, Statement, Enable, Seq, Par, If, While, Invoke}
use Rattle.cal_ast.specs.Tree.{Statements, NoStatements, MoreStatements, ControlSection, Absent, Empty, Body, Component, Design}

abbrev pub IsCalName : Text → Type 0
IsCalName = IsNameOf Cal

-- a name that may be missing
abbrev pub NameIsWritten : Option Text → Type 0
NameIsWritten None = Unit {0}
NameIsWritten (Some name) = IsCalName name

abbrev pub PortIsWritten : PortName → Type 0
PortIsWritten p = NameIsWritten p.cell × IsCalName p.pin

abbrev pub SourceIsWritten : Src PortName → Type 0
SourceIsWritten (Port port) = PortIsWritten port
SourceIsWritten (Lit width value) = IsWritten width × IsWritten value

-- a list of guards in a guard has two or more
abbrev pub HasTwoGuards : GuardTrees PortName → Type 0
HasTwoGuards NoGuards = ⊥
HasTwoGuards (MoreGuards g NoGuards) = ⊥
HasTwoGuards (MoreGuards g (MoreGuards h gs)) = Unit {0}

abbrev mutual
  pub GuardIsWritten : GuardTree PortName → Type 0
  GuardIsWritten (Reads source) = SourceIsWritten source
  GuardIsWritten (Compares op left right) = SourceIsWritten left × SourceIsWritten right
  GuardIsWritten (Negates guard) = GuardIsWritten guard
  GuardIsWritten (AllOf guards) = HasTwoGuards guards × GuardsAreWritten guards
  GuardIsWritten (AnyOf guards) = HasTwoGuards guards × GuardsAreWritten guards

  pub GuardsAreWritten : GuardTrees PortName → Type 0
  GuardsAreWritten NoGuards = Unit {0}
  GuardsAreWritten (MoreGuards guard guards) = GuardIsWritten guard × GuardsAreWritten guards

-- a guard that may be missing
abbrev pub WhenIsWritten : Option (GuardTree PortName) → Type 0
WhenIsWritten None = Unit {0}
WhenIsWritten (Some guard) = GuardIsWritten guard

abbrev pub PinIsWritten : Pin → Type 0
PinIsWritten p = IsCalName p.name × IsWritten p.width

-- inputs named `clk` and `reset` leave no trace
abbrev pub InputIsWritten : Pin → Type 0
InputIsWritten p = PinIsWritten p × ((p.name ≢ codes "clk") × (p.name ≢ codes "reset"))

abbrev pub CellIsWritten : CellDef → Type 0
CellIsWritten c = IsCalName c.name × (IsCalName c.made × AllByRecursion IsWritten c.params)

abbrev pub AssignmentIsWritten : Assignment → Type 0
AssignmentIsWritten a = PortIsWritten a.dst × (WhenIsWritten a.guard × SourceIsWritten a.src)

abbrev pub DoneIsWritten : DoneLine → Type 0
DoneIsWritten d = IsCalName d.group × (WhenIsWritten d.guard × SourceIsWritten d.src)

abbrev pub GroupIsWritten : GroupDef → Type 0
GroupIsWritten g = IsCalName g.name × (AllByRecursion AssignmentIsWritten g.sets × AllByRecursion DoneIsWritten g.dones)

abbrev pub InIsWritten : InBinding → Type 0
InIsWritten b = IsCalName b.pin × SourceIsWritten b.src

abbrev pub OutIsWritten : OutBinding → Type 0
OutIsWritten b = IsCalName b.pin × PortIsWritten b.dst

abbrev mutual
  pub StatementIsWritten : Statement → Type 0
  StatementIsWritten (Enable group) = IsCalName group
  StatementIsWritten (Seq statements) = StatementsAreWritten statements
  StatementIsWritten (Par statements) = StatementsAreWritten statements
  StatementIsWritten (If port by s t) = PortIsWritten port × (NameIsWritten by × (StatementIsWritten s × StatementIsWritten t))
  StatementIsWritten (While port by s) = PortIsWritten port × (NameIsWritten by × StatementIsWritten s)
  StatementIsWritten (Invoke cell ins outs) = IsCalName cell × (AllByRecursion InIsWritten ins × AllByRecursion OutIsWritten outs)

  pub StatementsAreWritten : Statements → Type 0
  StatementsAreWritten NoStatements = Unit {0}
  StatementsAreWritten (MoreStatements s ss) = StatementIsWritten s × StatementsAreWritten ss

abbrev pub ControlIsWritten : ControlSection → Type 0
ControlIsWritten Absent = Unit {0}
ControlIsWritten Empty = Unit {0}
ControlIsWritten (Body s) = StatementIsWritten s

pub record ComponentIsWritten (c : Component) : Type 0 where
  pub name : IsCalName c.name
  pub ins : AllByRecursion InputIsWritten c.ins
  pub outs : AllByRecursion PinIsWritten c.outs
  pub cells : AllByRecursion CellIsWritten c.cells
  pub groups : AllByRecursion GroupIsWritten c.groups
  pub sets : AllByRecursion AssignmentIsWritten c.sets
  pub control : ControlIsWritten c.control

-- rules by which groups act, by their guards
abbrev pub RulesAreWritten : List ActivityRule → Type 0
RulesAreWritten rules = AllByRecursion (λ (rule : ActivityRule). GuardIsWritten rule.when) rules

-- a design has a component
abbrev pub DesignIsWritten : Design → Type 0
DesignIsWritten d = (d ≢ []) × AllByRecursion ComponentIsWritten d
