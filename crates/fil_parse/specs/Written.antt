-- What designs are like that some text spells: their names are names of the grammar, their numbers can be written, and no list is empty
-- where the grammar asks for one item at least. This project's.
use Rattle.std.specs.Prelude.{◌≢◌, []}
use Rattle.std.specs.List.{AllByRecursion}
use Rattle.hw_names.specs.Name.{Text}
use Rattle.hw_lex.specs.declared.token.Dialect.TheVariants.{Fil}
use Rattle.hw_grammar.specs.Words.{IsNameOf, IsWritten}
use Rattle.fil_ast.specs.Tree.{TimeAt, Event, Interface, DataPort, ValueTree, InputValue, OutputValue, Literal, Giving, Statement, New, Call, Both, Connect}
use Rattle.fil_ast.specs.Tree.{Component, Design}

abbrev pub IsFilName : Text → Type 0
IsFilName = IsNameOf Fil

abbrev pub TimeIsWritten : TimeAt → Type 0
TimeIsWritten t = IsFilName t.event × IsWritten t.plus

abbrev pub EventIsWritten : Event → Type 0
EventIsWritten e = IsFilName e.name × IsWritten e.delay

abbrev pub InterfaceIsWritten : Interface → Type 0
InterfaceIsWritten g = IsFilName g.event × (IsFilName g.name × IsWritten g.width)

abbrev pub PortIsWritten : DataPort → Type 0
PortIsWritten p = TimeIsWritten p.from × (TimeIsWritten p.to × (IsFilName p.name × IsWritten p.width))

abbrev pub ValueIsWritten : ValueTree → Type 0
ValueIsWritten (InputValue name) = IsFilName name
ValueIsWritten (OutputValue invocation port) = IsFilName invocation × IsFilName port
ValueIsWritten (Literal width value) = IsWritten width × IsWritten value

-- an invocation has a time
abbrev pub GivingIsWritten : Giving → Type 0
GivingIsWritten g = ((g.times ≢ []) × AllByRecursion TimeIsWritten g.times) × AllByRecursion ValueIsWritten g.args

abbrev pub StatementIsWritten : Statement → Type 0
StatementIsWritten (New name made params) = IsFilName name × (IsFilName made × AllByRecursion IsWritten params)
StatementIsWritten (Call name inst gives) = IsFilName name × (IsFilName inst × GivingIsWritten gives)
StatementIsWritten (Both name made params gives) = IsFilName name × (IsFilName made × (AllByRecursion IsWritten params × GivingIsWritten gives))
StatementIsWritten (Connect output value) = IsFilName output × ValueIsWritten value

-- a component has an event
pub record ComponentIsWritten (c : Component) : Type 0 where
  pub name : IsFilName c.name
  pub some_event : c.events ≢ []
  pub events : AllByRecursion EventIsWritten c.events
  pub interfaces : AllByRecursion InterfaceIsWritten c.interfaces
  pub ins : AllByRecursion PortIsWritten c.ins
  pub outs : AllByRecursion PortIsWritten c.outs
  pub body : AllByRecursion StatementIsWritten c.body

-- a design has a component
abbrev pub DesignIsWritten : Design → Type 0
DesignIsWritten d = (d ≢ []) × AllByRecursion ComponentIsWritten d
