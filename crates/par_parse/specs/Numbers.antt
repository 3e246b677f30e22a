-- That each name of a design with parameters is a number of its list of names. This project's.
use Rattle.std.specs.Prelude.{List, All, IfSome}
use Rattle.hw_names.specs.Name.{Text}
use Rattle.fil_ast.specs.Numbers.{IsNumberOf}
use Rattle.par_parse.specs.declared.tree.Expression.{Expression, Row_of-Expression, end_of-Expression, more_of-Expression}
use Rattle.par_parse.specs.declared.tree.Expression as expression
use Rattle.par_parse.specs.declared.tree.ParamName.{ParamName}
use Rattle.par_parse.specs.declared.tree.ParamTime.{ParamTime}
use Rattle.par_parse.specs.declared.tree.ParamEvent.{ParamEvent}
use Rattle.par_parse.specs.declared.tree.ParamGo.{ParamGo}
use Rattle.par_parse.specs.declared.tree.ParamPort.{ParamPort}
use Rattle.par_parse.specs.declared.tree.ParamValue.{ParamValue}
use Rattle.par_parse.specs.declared.tree.ParamValue.TheVariants as value
use Rattle.par_parse.specs.declared.tree.ParamStatement.{ParamStatement, Row_of-ParamStatement, end_of-ParamStatement, more_of-ParamStatement}
use Rattle.par_parse.specs.declared.tree.ParamStatement as statement
use Rattle.par_parse.specs.declared.tree.ParamComponent.{ParamComponent}
use Rattle.par_parse.specs.declared.tree.ParamDesign.{ParamDesign}

abbrev mutual
  pub ExpressionHasNumbers : List Text → Expression → Type 0
  ExpressionHasNumbers names (expression.Num n) = Unit {0}
  ExpressionHasNumbers names (expression.Name id) = IsNumberOf names id
  ExpressionHasNumbers names (expression.Sum' shape es) = ExpressionsHaveNumbers names es
  ExpressionHasNumbers names (expression.Minus' p e) = ExpressionHasNumbers names e
  ExpressionHasNumbers names (expression.Product' shape es) = ExpressionsHaveNumbers names es

  pub ExpressionsHaveNumbers : {m : _} → List Text → Row_of-Expression m → Type 0
  ExpressionsHaveNumbers names end_of-Expression = Unit {0}
  ExpressionsHaveNumbers names (more_of-Expression e es) = ExpressionHasNumbers names e × ExpressionsHaveNumbers names es

abbrev pub NameHasNumbers : List Text → ParamName → Type 0
NameHasNumbers names n = IsNumberOf names n.name × IfSome n.index (ExpressionHasNumbers names)

abbrev pub TimeHasNumbers : List Text → ParamTime → Type 0
TimeHasNumbers names t = IsNumberOf names t.event × ExpressionHasNumbers names t.plus

abbrev pub EventHasNumbers : List Text → ParamEvent → Type 0
EventHasNumbers names e = IsNumberOf names e.name × ExpressionHasNumbers names e.delay

abbrev pub InterfaceHasNumbers : List Text → ParamGo → Type 0
InterfaceHasNumbers names g = IsNumberOf names g.event × NameHasNumbers names g.name × ExpressionHasNumbers names g.width

abbrev pub PortHasNumbers : List Text → ParamPort → Type 0
PortHasNumbers names p = TimeHasNumbers names p.from × TimeHasNumbers names p.to × NameHasNumbers names p.name × ExpressionHasNumbers names p.width

abbrev pub ValueHasNumbers : List Text → ParamValue → Type 0
ValueHasNumbers names (value.Port p) = NameHasNumbers names p
ValueHasNumbers names (value.Out v p) = NameHasNumbers names v × NameHasNumbers names p
ValueHasNumbers names (value.Lit width n) = Unit {0}
ValueHasNumbers names (value.Made width n) = ExpressionHasNumbers names width × ExpressionHasNumbers names n

abbrev pub GivingHasNumbers : List Text → List ParamTime → List ParamValue → Type 0
GivingHasNumbers names at args = All (TimeHasNumbers names) at × All (ValueHasNumbers names) args

abbrev mutual
  pub StatementHasNumbers : List Text → ParamStatement → Type 0
  StatementHasNumbers names (statement.New name made params) =
      NameHasNumbers names name × IsNumberOf names made × All (ExpressionHasNumbers names) params.items
  StatementHasNumbers names (statement.Call name inst at args) =
      NameHasNumbers names name × NameHasNumbers names inst × GivingHasNumbers names at.items args.items
  StatementHasNumbers names (statement.Both name made params at args) =
      NameHasNumbers names name × IsNumberOf names made × All (ExpressionHasNumbers names) params.items × GivingHasNumbers names at.items args.items
  StatementHasNumbers names (statement.Set dst v) = NameHasNumbers names dst × ValueHasNumbers names v
  StatementHasNumbers names (statement.For' name from to shape body) =
      IsNumberOf names name × ExpressionHasNumbers names from × ExpressionHasNumbers names to × StatementsHaveNumbers names body
  StatementHasNumbers names (statement.If' less left right then_shape then_this else_shape else_this) =
      ExpressionHasNumbers names left × ExpressionHasNumbers names right × StatementsHaveNumbers names then_this × StatementsHaveNumbers names else_this

  pub StatementsHaveNumbers : {m : _} → List Text → Row_of-ParamStatement m → Type 0
  StatementsHaveNumbers names end_of-ParamStatement = Unit {0}
  StatementsHaveNumbers names (more_of-ParamStatement s ss) = StatementHasNumbers names s × StatementsHaveNumbers names ss

pub record ComponentHasNumbers (names : List Text) (c : ParamComponent) : Type 0 where
  pub name : IsNumberOf names c.name
  pub params : All (IsNumberOf names) c.params.items
  pub events : All (EventHasNumbers names) c.events.items
  pub interfaces : All (InterfaceHasNumbers names) c.gos.items
  pub ins : All (PortHasNumbers names) c.ins.items
  pub outs : All (PortHasNumbers names) c.outs.items
  pub body : All (StatementHasNumbers names) c.body.items

abbrev pub HasNumbers : ParamDesign → Type 0
HasNumbers d = All (ComponentHasNumbers d.names) d.comps.items
