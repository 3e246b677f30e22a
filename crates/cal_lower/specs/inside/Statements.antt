-- Statements of control whose names are known, and in which no invoke stands. This project's.
use Rattle.std.specs.Prelude.{List, [], ◌∷◌, All}
use Rattle.hw_names.specs.Name.{Text, KeepsTexts}
use Rattle.cal_ast.specs.Numbers.{ComponentHasNumbers, ControlHasNumbers, StatementHasNumbers}
use Rattle.cal_ast.specs.Tree.{Statement, Enable, Seq, Par, If, While, Invoke, Statements, NoStatements, MoreStatements, statement_tree}
use Rattle.cal_ast.specs.Tree.{ControlSection, Absent, Empty, Body, control_tree}
use Rattle.cal_ast.specs.declared.tree.CalComp.{CalComp}
use Rattle.cal_ast.specs.declared.tree.Control.{Control}
use Rattle.cal_ast.specs.declared.tree.ControlPart.{ControlPart}

-- statements in a list
abbrev pub statements_from : List Statement → Statements
statements_from [] = NoStatements
statements_from (s ∷ ss) = MoreStatements s (statements_from ss)

-- neither the statement nor one inside it is an invoke
abbrev mutual
  pub HasNoInvoke : Statement → Type 0
  HasNoInvoke (Enable group) = Unit {0}
  HasNoInvoke (Seq ss) = HaveNoInvoke ss
  HasNoInvoke (Par ss) = HaveNoInvoke ss
  HasNoInvoke (If port by s t) = HasNoInvoke s × HasNoInvoke t
  HasNoInvoke (While port by s) = HasNoInvoke s
  HasNoInvoke (Invoke cell ins outs) = ⊥

  pub HaveNoInvoke : Statements → Type 0
  HaveNoInvoke NoStatements = Unit {0}
  HaveNoInvoke (MoreStatements s ss) = HasNoInvoke s × HaveNoInvoke ss

-- the names of the source are kept, the statement has numbers of them, and there is no invoke in it
pub record CanLower (source names : List Text) (s : Control) : Type 0 where
  pub kept : KeepsTexts source names
  pub numbers : StatementHasNumbers source s
  pub no_invoke : HasNoInvoke (statement_tree source s)

pub record CanLowerAll (source names : List Text) (ss : List Control) : Type 0 where
  pub kept : KeepsTexts source names
  pub numbers : All (StatementHasNumbers source) ss
  pub no_invoke : All (λ s. HasNoInvoke (statement_tree source s)) ss

abbrev pub SectionHasNoInvoke : ControlSection → Type 0
SectionHasNoInvoke Absent = Unit {0}
SectionHasNoInvoke Empty = Unit {0}
SectionHasNoInvoke (Body s) = HasNoInvoke s

pub record CanLowerSection (source names : List Text) (section : ControlPart) : Type 0 where
  pub kept : KeepsTexts source names
  pub numbers : ControlHasNumbers source section
  pub no_invoke : SectionHasNoInvoke (control_tree source section)

pub record CanLowerComponent (source names : List Text) (c : CalComp) : Type 0 where
  pub kept : KeepsTexts source names
  pub numbers : ComponentHasNumbers source c
  pub no_invoke : SectionHasNoInvoke (control_tree source c.control)
