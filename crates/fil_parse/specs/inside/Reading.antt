-- Reading Filament on lists: what the functions of the reader give. That each is exact for its rule of Grammar is proved in proofs/.
use Rattle.std.specs.Prelude.{ℕ, List, [], ◌∷◌, Option, Some, None}
use Rattle.hw_names.specs.Name.{Text}
use Rattle.hw_grammar.specs.declared.sort.Sort.TheVariants.{Name, Literal, Comp, New, Interface, Import, At, LeftBracket, RightBracket, LeftParen, RightParen}
use Rattle.hw_grammar.specs.declared.sort.Sort.TheVariants.{LeftAngle, RightAngle, LeftBrace, RightBrace, Comma, Colon, ColonEquals, Semicolon, Equals, Plus}
use Rattle.hw_grammar.specs.declared.sort.Sort.TheVariants.{Dot, Arrow}
use Rattle.hw_grammar.specs.declared.sort.Sort.TheVariants as sorts
use Rattle.hw_grammar.specs.Reading.{Reader, one, empty, mapped, any_word, any_number, any_literal, then, either, optional, after, closed, between, many}
use Rattle.hw_grammar.specs.Reading.{separated, listed}
use Rattle.fil_ast.specs.Tree.{TimeAt, Event, DataPort, ValueTree, InputValue, OutputValue, Giving, Statement, Call, Both, Connect, Component, Design}
use Rattle.fil_ast.specs.Tree as tree
use Rattle.fil_parse.specs.Grammar.{time_from, literal_from, giving_from, made, port_from, interface_from, Input, InterfacePort, DataInput, event_from}
use Rattle.fil_parse.specs.Grammar.{component_from, design_from}

unfoldable pub time_at : List Text → Reader TimeAt
time_at names = mapped time_from (then (any_word names) (either (Plus ∷ []) (after Plus any_number) (empty 0)))

-- a name alone, or with the name after a dot
abbrev pub named_value : Text × Option Text → ValueTree
named_value (name, None) = InputValue name
named_value (name, Some port) = OutputValue name port

unfoldable pub value_at : List Text → Reader ValueTree
value_at names =
    either (Name ∷ []) (mapped named_value (then (any_word names) (optional (Dot ∷ []) (after Dot (any_word names))))) (mapped literal_from any_literal)

unfoldable pub more_time_at : List Text → Reader TimeAt
more_time_at names = after Comma (time_at names)

unfoldable pub times_at : List Text → Reader (List TimeAt)
times_at names = between LeftAngle (separated Comma (time_at names)) RightAngle

unfoldable pub values_at : List Text → Reader (List ValueTree)
values_at names = between LeftParen (listed Comma (Name ∷ Literal ∷ []) (value_at names)) RightParen

unfoldable pub call_at : List Text → Reader Giving
call_at names = mapped giving_from (then (times_at names) (values_at names))

unfoldable pub more_number_at : Reader ℕ
more_number_at = after Comma any_number

unfoldable pub params_at : Reader (List ℕ)
params_at = between LeftBracket (separated Comma any_number) RightBracket

-- what follows the name of a statement is read as a function of that name
abbrev pub new_by : Text × (List ℕ × Option Giving) → Text → Statement
new_by x name = made name x.0 x.1.0 x.1.1

abbrev pub call_by : Text × Giving → Text → Statement
call_by x name = Call name x.0 x.1

abbrev pub connect_by : ValueTree → Text → Statement
connect_by value name = Connect name value

-- after `new`
unfoldable pub new_at : List Text → Reader (Text → Statement)
new_at names =
    mapped new_by (then (any_word names) (closed (then (either (LeftBracket ∷ []) params_at (empty [])) (optional (LeftAngle ∷ []) (call_at names))) Semicolon))

-- after `:=`, where no `new` is
unfoldable pub called_at : List Text → Reader (Text → Statement)
called_at names = mapped call_by (then (any_word names) (closed (call_at names) Semicolon))

-- after `=`
unfoldable pub connected_at : List Text → Reader (Text → Statement)
connected_at names = mapped connect_by (closed (value_at names) Semicolon)

abbrev pub of_name : Text × (Text → Statement) → Statement
of_name x = x.1 x.0

unfoldable pub statement_at : List Text → Reader Statement
statement_at names =
    mapped of_name (then (any_word names)
    (either (ColonEquals ∷ []) (after ColonEquals (either (New ∷ []) (after New (new_at names)) (called_at names))) (after Equals (connected_at names))))

-- after `@`
unfoldable pub placed_at : List Text → Reader DataPort
placed_at names =
    mapped port_from (after LeftBracket (then (closed (time_at names) Comma)
    (then (closed (time_at names) RightBracket) (then (closed (any_word names) Colon) any_number))))

unfoldable pub port_at : List Text → Reader DataPort
port_at names = after At (placed_at names)

-- after `interface`
unfoldable pub interface_at : List Text → Reader tree.Interface
interface_at names =
    mapped interface_from (then (between LeftBracket (any_word names) RightBracket) (then (closed (any_word names) Colon) any_number))

unfoldable pub input_at : List Text → Reader Input
input_at names =
    after At (either (Interface ∷ []) (after Interface (mapped InterfacePort (interface_at names))) (mapped DataInput (placed_at names)))

unfoldable pub event_at : List Text → Reader Event
event_at names = mapped event_from (then (closed (any_word names) Colon) any_number)

unfoldable pub more_event_at : List Text → Reader Event
more_event_at names = after Comma (event_at names)

unfoldable pub events_at : List Text → Reader (List Event)
events_at names = between LeftAngle (separated Comma (event_at names)) RightAngle

unfoldable pub inputs_at : List Text → Reader (List Input)
inputs_at names = between LeftParen (listed Comma (At ∷ []) (input_at names)) RightParen

unfoldable pub outputs_at : List Text → Reader (List DataPort)
outputs_at names = between LeftParen (listed Comma (At ∷ []) (port_at names)) RightParen

unfoldable pub body_at : List Text → Reader (List Statement)
body_at names = between LeftBrace (many (Name ∷ []) (statement_at names)) RightBrace

unfoldable pub component_at : List Text → Reader Component
component_at names =
    mapped component_from (after Comp (then (any_word names)
    (then (events_at names) (then (inputs_at names) (then (after Arrow (outputs_at names)) (body_at names))))))

unfoldable pub import_at : Reader (Unit {0})
import_at = after Import (closed (mapped (λ _. tt) (one sorts.Text)) Semicolon)

unfoldable pub imports_at : Reader (Unit {0})
imports_at = mapped (λ _. tt) (many (Import ∷ []) import_at)

unfoldable pub file_at : List Text → Reader Design
file_at names =
    mapped design_from (then imports_at (then (component_at names) (many (Comp ∷ []) (component_at names))))
