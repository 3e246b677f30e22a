-- What designs with parameters are like that some text spells: their names are names of the grammar, their numbers can be written, no list is empty
-- where the grammar asks for one item at least, and what expressions have in them stands where the grammar puts it. This project's.
use Rattle.std.specs.Prelude.{◌≢◌, [], Option, Some, None}
use Rattle.std.specs.List.{AllByRecursion}
use Rattle.hw_names.specs.Name.{Text}
use Rattle.hw_lex.specs.declared.token.Dialect.TheVariants.{Filp}
use Rattle.hw_grammar.specs.Words.{IsNameOf, IsWritten}
use Rattle.par_parse.specs.Tree.{ExpressionTree, Num, Name, Sum, Minus, Product, ExpressionTrees, NoExpressions, MoreExpressions, NameTree, TimeTree}
use Rattle.par_parse.specs.Tree.{EventTree, InterfaceTree, PortTree, ValueTree, InputValue, OutputValue, Literal, MadeLiteral, GivingTree, StatementTree}
use Rattle.par_parse.specs.Tree.{New, Call, Both, Connect, For, If, StatementTrees, NoStatements, MoreStatements, ComponentTree, DesignTree}

abbrev pub IsFilpName : Text → Type 0
IsFilpName = IsNameOf Filp

-- ---- expressions

-- no term that is taken away
abbrev pub IsNoMinus : ExpressionTree → Type 0
IsNoMinus (Minus _) = ⊥
IsNoMinus _ = Unit {0}

abbrev pub AreNoMinus : ExpressionTrees → Type 0
AreNoMinus NoExpressions = Unit {0}
AreNoMinus (MoreExpressions e es) = IsNoMinus e × AreNoMinus es

-- two terms or more, the first of which is added
abbrev pub AreTerms : ExpressionTrees → Type 0
AreTerms (MoreExpressions e (MoreExpressions f es)) = IsNoMinus e
AreTerms _ = ⊥

-- two factors or more
abbrev pub AreFactors : ExpressionTrees → Type 0
AreFactors (MoreExpressions e (MoreExpressions f es)) = IsNoMinus e × (IsNoMinus f × AreNoMinus es)
AreFactors _ = ⊥

-- the expression or the term is so in each of its parts
abbrev mutual
  pub PartsAreWritten : ExpressionTree → Type 0
  PartsAreWritten (Num n) = IsWritten n
  PartsAreWritten (Name name) = IsFilpName name
  PartsAreWritten (Sum es) = AreTerms es × ItemsAreWritten es
  PartsAreWritten (Minus e) = IsNoMinus e × PartsAreWritten e
  PartsAreWritten (Product es) = AreFactors es × ItemsAreWritten es

  pub ItemsAreWritten : ExpressionTrees → Type 0
  ItemsAreWritten NoExpressions = Unit {0}
  ItemsAreWritten (MoreExpressions e es) = PartsAreWritten e × ItemsAreWritten es

abbrev pub ExpressionIsWritten : ExpressionTree → Type 0
ExpressionIsWritten e = IsNoMinus e × PartsAreWritten e

-- ---- names, times and values

-- an index that may be missing
abbrev pub IndexIsWritten : Option ExpressionTree → Type 0
IndexIsWritten None = Unit {0}
IndexIsWritten (Some e) = ExpressionIsWritten e

abbrev pub NameIsWritten : NameTree → Type 0
NameIsWritten n = IsFilpName n.name × IndexIsWritten n.index

abbrev pub TimeIsWritten : TimeTree → Type 0
TimeIsWritten t = IsFilpName t.event × ExpressionIsWritten t.plus

abbrev pub ValueIsWritten : ValueTree → Type 0
ValueIsWritten (InputValue name) = NameIsWritten name
ValueIsWritten (OutputValue invocation port) = NameIsWritten invocation × NameIsWritten port
ValueIsWritten (Literal width value) = IsWritten width × IsWritten value
ValueIsWritten (MadeLiteral width value) = ExpressionIsWritten width × ExpressionIsWritten value

-- ---- statements

-- an invocation has a time
abbrev pub GivingIsWritten : GivingTree → Type 0
GivingIsWritten g = ((g.times ≢ []) × AllByRecursion TimeIsWritten g.times) × AllByRecursion ValueIsWritten g.args

abbrev mutual
  pub StatementIsWritten : StatementTree → Type 0
  StatementIsWritten (New name made params) = NameIsWritten name × (IsFilpName made × AllByRecursion ExpressionIsWritten params)
  StatementIsWritten (Call name inst gives) = NameIsWritten name × (NameIsWritten inst × GivingIsWritten gives)
  StatementIsWritten (Both name made params gives) =
      NameIsWritten name × (IsFilpName made × (AllByRecursion ExpressionIsWritten params × GivingIsWritten gives))
  StatementIsWritten (Connect output value) = NameIsWritten output × ValueIsWritten value
  StatementIsWritten (For name from to body) =
      IsFilpName name × (ExpressionIsWritten from × (ExpressionIsWritten to × StatementsAreWritten body))
  StatementIsWritten (If less left right then_this else_this) =
      ExpressionIsWritten left × (ExpressionIsWritten right × (StatementsAreWritten then_this × StatementsAreWritten else_this))

  pub StatementsAreWritten : StatementTrees → Type 0
  StatementsAreWritten NoStatements = Unit {0}
  StatementsAreWritten (MoreStatements s ss) = StatementIsWritten s × StatementsAreWritten ss

-- ---- components

abbrev pub EventIsWritten : EventTree → Type 0
EventIsWritten e = IsFilpName e.name × ExpressionIsWritten e.delay

abbrev pub InterfaceIsWritten : InterfaceTree → Type 0
InterfaceIsWritten g = IsFilpName g.event × (NameIsWritten g.name × ExpressionIsWritten g.width)

abbrev pub PortIsWritten : PortTree → Type 0
PortIsWritten p = TimeIsWritten p.from × (TimeIsWritten p.to × (NameIsWritten p.name × ExpressionIsWritten p.width))

-- a component has an event
pub record ComponentIsWritten (c : ComponentTree) : Type 0 where
  pub name : IsFilpName c.name
  pub params : AllByRecursion IsFilpName c.params
  pub some_event : c.events ≢ []
  pub events : AllByRecursion EventIsWritten c.events
  pub interfaces : AllByRecursion InterfaceIsWritten c.interfaces
  pub ins : AllByRecursion PortIsWritten c.ins
  pub outs : AllByRecursion PortIsWritten c.outs
  pub body : AllByRecursion StatementIsWritten c.body

-- a design has a component
abbrev pub DesignIsWritten : DesignTree → Type 0
DesignIsWritten d = (d ≢ []) × AllByRecursion ComponentIsWritten d
