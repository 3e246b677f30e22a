-- A design with parameters as a tree of texts, whatever numbers its names have. Filament, PLDI 2023, in this project's profile, with parameters,
-- loops and names with an index, which are this project's.
use Rattle.std.specs.Prelude.{ℕ, Bool, List, [], ◌∷◌, map, Option, option_map}
use Rattle.hw_names.specs.Name.{Text, text_of}
use Rattle.par_parse.specs.declared.tree.Expression.{Expression, Row_of-Expression, end_of-Expression, more_of-Expression}
use Rattle.par_parse.specs.declared.tree.Expression as expression
use Rattle.par_parse.specs.declared.tree.ParamName.{ParamName}
use Rattle.par_parse.specs.declared.tree.ParamTime.{ParamTime}
use Rattle.par_parse.specs.declared.tree.ParamEvent.{ParamEvent}
use Rattle.par_parse.specs.declared.tree.ParamGo.{ParamGo}
use Rattle.par_parse.specs.declared.tree.ParamPort.{ParamPort}
use Rattle.par_parse.specs.declared.tree.ParamValue.{ParamValue}
use Rattle.par_parse.specs.declared.tree.ParamValue.TheVariants as value
use Rattle.par_parse.specs.declared.tree.ParamStatement.{ParamStatement, Row_of-ParamStatement, end_of-ParamStatement, more_of-ParamStatement}
use Rattle.par_parse.specs.declared.tree.ParamStatement as statement
use Rattle.par_parse.specs.declared.tree.ParamComponent.{ParamComponent}
use Rattle.par_parse.specs.declared.tree.ParamDesign.{ParamDesign}

-- a number that is worked out where its component is expanded
mutual
  pub data ExpressionTree : Type 0 where
    Num : ℕ → ExpressionTree
    -- a parameter, or the name of a loop
    Name : Text → ExpressionTree
    -- terms one after another; those after the first are added, or are a Minus
    Sum : ExpressionTrees → ExpressionTree
    -- a term of a Sum that is taken away from what is before it
    Minus : ExpressionTree → ExpressionTree
    Product : ExpressionTrees → ExpressionTree

  pub data ExpressionTrees : Type 0 where
    NoExpressions : ExpressionTrees
    MoreExpressions : ExpressionTree → ExpressionTrees → ExpressionTrees

-- expressions in a list
abbrev pub expressions_of : List ExpressionTree → ExpressionTrees
expressions_of [] = NoExpressions
expressions_of (e ∷ es) = MoreExpressions e (expressions_of es)

-- the name of a port, an instance, an invocation or a value, and its index where it has one
pub record NameTree : Type 0 where
  pub name : Text
  pub index : Option ExpressionTree

-- an event, and so many rows after it
pub record TimeTree : Type 0 where
  pub event : Text
  pub plus : ExpressionTree

-- an event and its delay
pub record EventTree : Type 0 where
  pub name : Text
  pub delay : ExpressionTree

-- the interface port of an event
pub record InterfaceTree : Type 0 where
  pub event : Text
  pub name : NameTree
  pub width : ExpressionTree

-- a data port, available from one time to another
pub record PortTree : Type 0 where
  pub from : TimeTree
  pub to : TimeTree
  pub name : NameTree
  pub width : ExpressionTree

-- a value: a data input, an output of an invocation, a literal as it is written, or one whose width and value are worked out
pub data ValueTree : Type 0 where
  InputValue : NameTree → ValueTree
  OutputValue : (invocation port : NameTree) → ValueTree
  Literal : (width value : ℕ) → ValueTree
  MadeLiteral : (width value : ExpressionTree) → ValueTree

-- what an invocation gives: times in the places of the callee's events, and arguments for its data inputs
pub record GivingTree : Type 0 where
  pub times : List TimeTree
  pub args : List ValueTree

-- a statement; Both makes an instance and an invocation of one name
mutual
  pub data StatementTree : Type 0 where
    New : (name : NameTree) (made : Text) (params : List ExpressionTree) → StatementTree
    Call : (name inst : NameTree) (gives : GivingTree) → StatementTree
    Both : (name : NameTree) (made : Text) (params : List ExpressionTree) (gives : GivingTree) → StatementTree
    Connect : (output : NameTree) (value : ValueTree) → StatementTree
    -- the body once for each number from the one up to, and without, the other
    For : (name : Text) (from to : ExpressionTree) (body : StatementTrees) → StatementTree
    -- the one body where the left number is less than the right, or equal to it where `less` is false; else the other
    If : (less : Bool) (left right : ExpressionTree) (then_this else_this : StatementTrees) → StatementTree

  pub data StatementTrees : Type 0 where
    NoStatements : StatementTrees
    MoreStatements : StatementTree → StatementTrees → StatementTrees

-- statements in a list
abbrev pub statements_of : List StatementTree → StatementTrees
statements_of [] = NoStatements
statements_of (s ∷ ss) = MoreStatements s (statements_of ss)

pub record ComponentTree : Type 0 where
  pub name : Text
  pub params : List Text
  pub events : List EventTree
  pub interfaces : List InterfaceTree
  pub ins : List PortTree
  pub outs : List PortTree
  pub body : List StatementTree

-- the components in text order
abbrev pub DesignTree : Type 0
DesignTree = List ComponentTree

-- ---- each name's number replaced by its text

abbrev mutual
  pub expression_tree : List Text → Expression → ExpressionTree
  expression_tree names (expression.Num n) = Num n
  expression_tree names (expression.Name id) = Name (text_of names id)
  expression_tree names (expression.Sum' shape es) = Sum (expression_trees names es)
  expression_tree names (expression.Minus' p e) = Minus (expression_tree names e)
  expression_tree names (expression.Product' shape es) = Product (expression_trees names es)

  pub expression_trees : {m : _} → List Text → Row_of-Expression m → ExpressionTrees
  expression_trees names end_of-Expression = NoExpressions
  expression_trees names (more_of-Expression e es) = MoreExpressions (expression_tree names e) (expression_trees names es)

abbrev pub name_tree : List Text → ParamName → NameTree
name_tree names n = record { name = text_of names n.name; index = option_map (expression_tree names) n.index }

abbrev pub time_tree : List Text → ParamTime → TimeTree
time_tree names t = record { event = text_of names t.event; plus = expression_tree names t.plus }

abbrev pub event_tree : List Text → ParamEvent → EventTree
event_tree names e = record { name = text_of names e.name; delay = expression_tree names e.delay }

abbrev pub interface_tree : List Text → ParamGo → InterfaceTree
interface_tree names g =
    record { event = text_of names g.event; name = name_tree names g.name; width = expression_tree names g.width }

abbrev pub port_tree : List Text → ParamPort → PortTree
port_tree names p =
    record {
      from = time_tree names p.from;
      to = time_tree names p.to;
      name = name_tree names p.name;
      width = expression_tree names p.width;
    }

abbrev pub value_tree : List Text → ParamValue → ValueTree
value_tree names (value.Port p) = InputValue (name_tree names p)
value_tree names (value.Out v p) = OutputValue (name_tree names v) (name_tree names p)
value_tree names (value.Lit width n) = Literal width n
value_tree names (value.Made width n) = MadeLiteral (expression_tree names width) (expression_tree names n)

abbrev pub giving_tree : List Text → List ParamTime → List ParamValue → GivingTree
giving_tree names at args = record { times = map (time_tree names) at; args = map (value_tree names) args }

abbrev mutual
  pub statement_tree : List Text → ParamStatement → StatementTree
  statement_tree names (statement.New name made params) =
      New (name_tree names name) (text_of names made) (map (expression_tree names) params.items)
  statement_tree names (statement.Call name inst at args) =
      Call (name_tree names name) (name_tree names inst) (giving_tree names at.items args.items)
  statement_tree names (statement.Both name made params at args) =
      Both (name_tree names name) (text_of names made) (map (expression_tree names) params.items) (giving_tree names at.items args.items)
  statement_tree names (statement.Set dst v) = Connect (name_tree names dst) (value_tree names v)
  statement_tree names (statement.For' name from to shape body) =
      For (text_of names name) (expression_tree names from) (expression_tree names to) (statement_trees names body)
  statement_tree names (statement.If' less left right then_shape then_this else_shape else_this) =
      If less (expression_tree names left) (expression_tree names right) (statement_trees names then_this) (statement_trees names else_this)

  pub statement_trees : {m : _} → List Text → Row_of-ParamStatement m → StatementTrees
  statement_trees names end_of-ParamStatement = NoStatements
  statement_trees names (more_of-ParamStatement s ss) = MoreStatements (statement_tree names s) (statement_trees names ss)

abbrev pub component_tree : List Text → ParamComponent → ComponentTree
component_tree names c =
    record {
      name = text_of names c.name;
      params = map (text_of names) c.params.items;
      events = map (event_tree names) c.events.items;
      interfaces = map (interface_tree names) c.gos.items;
      ins = map (port_tree names) c.ins.items;
      outs = map (port_tree names) c.outs.items;
      body = map (statement_tree names) c.body.items;
    }

abbrev pub design_of : ParamDesign → DesignTree
design_of d = map (component_tree d.names) d.comps.items
