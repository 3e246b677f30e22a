-- Reading Filament with parameters on lists: what the functions of the reader give. That each is exact for its rule of Grammar is proved in proofs/.
use Rattle.std.specs.Prelude.{ℕ, zero, suc, Bool, true, false, List, [], ◌∷◌, length, Option, Some, None, Err}
use Rattle.hw_names.specs.Name.{Text}
use Rattle.hw_grammar.specs.declared.sort.Sort.{Sort}
use Rattle.hw_grammar.specs.declared.sort.Sort.TheVariants.{Name, Number, Literal, Comp, New, Interface, Import, For, In, If, Else, Lit, At, LeftBracket}
use Rattle.hw_grammar.specs.declared.sort.Sort.TheVariants.{RightBracket, LeftParen, RightParen, LeftAngle, RightAngle, LeftBrace, RightBrace, Comma}
use Rattle.hw_grammar.specs.declared.sort.Sort.TheVariants.{Colon, ColonEquals, Semicolon, Equals, Plus, Minus, Star, Hash, Dot, DotDot, Arrow}
use Rattle.hw_grammar.specs.declared.sort.Sort.TheVariants.{EqualsEquals}
use Rattle.hw_grammar.specs.declared.sort.Sort.TheVariants as sorts
use Rattle.hw_grammar.specs.Reading.{Reader, one, empty, mapped, any_word, any_number, any_literal, then, either, optional, after, closed, between, many}
use Rattle.hw_grammar.specs.Reading.{separated, listed}
use Rattle.par_parse.specs.Tree.{ExpressionTree, Num, NameTree, TimeTree, EventTree, InterfaceTree, PortTree, ValueTree, InputValue, OutputValue}
use Rattle.par_parse.specs.Tree.{GivingTree, StatementTree, Call, Connect, ComponentTree, DesignTree}
use Rattle.par_parse.specs.Tree as tree
use Rattle.par_parse.specs.Grammar.{product_from, minus_from, sum_from, list_from, name_from, time_from, literal_from, made_literal_from, giving_from}
use Rattle.par_parse.specs.Grammar.{made, for_from, if_from, port_from, interface_from, InputTree}
use Rattle.par_parse.specs.Grammar.{InterfacePort, DataInput, event_from, inputs_from, Ports, component_from}
use Rattle.par_parse.specs.Grammar.{design_from}

-- ---- expressions; those in parentheses are read by the second parameter of these

unfoldable pub atom_by : List Text → Reader ExpressionTree → Reader ExpressionTree
atom_by names expressions =
    either (Number ∷ []) (mapped Num any_number)
    (either (Name ∷ []) (mapped tree.Name (any_word names)) (between LeftParen expressions RightParen))

unfoldable pub term_by : List Text → Reader ExpressionTree → Reader ExpressionTree
term_by names expressions = mapped product_from (separated Star (atom_by names expressions))

unfoldable pub next_term_by : List Text → Reader ExpressionTree → Reader ExpressionTree
next_term_by names expressions =
    either (Plus ∷ []) (after Plus (term_by names expressions)) (mapped minus_from (after Minus (term_by names expressions)))

-- what a term after the first begins with
abbrev pub signs : List Sort
signs = Plus ∷ Minus ∷ []

unfoldable pub expression_by : List Text → Reader ExpressionTree → Reader ExpressionTree
expression_by names expressions = mapped sum_from (mapped list_from (then (term_by names expressions) (many signs (next_term_by names expressions))))

-- with parentheses less deep in one another than this
abbrev pub expression_to : List Text → ℕ → Reader ExpressionTree
expression_to names zero = λ ts. Err ts
expression_to names (suc depth) = expression_by names (expression_to names depth)

-- parentheses stand less deep in one another than there are terminals
unfoldable pub expression_at : List Text → Reader ExpressionTree
expression_at names ts = expression_to names (length ts) ts

unfoldable pub atom_at : List Text → Reader ExpressionTree
atom_at names ts = atom_by names (expression_to names (length ts)) ts

unfoldable pub more_expression_at : List Text → Reader ExpressionTree
more_expression_at names = after Comma (expression_at names)

-- ---- names, times and values

unfoldable pub index_at : List Text → Reader (Option ExpressionTree)
index_at names = optional (Hash ∷ []) (after Hash (atom_at names))

unfoldable pub name_at : List Text → Reader NameTree
name_at names = mapped name_from (then (any_word names) (index_at names))

unfoldable pub plus_at : List Text → Reader ExpressionTree
plus_at names = either (Plus ∷ []) (after Plus (expression_at names)) (empty (Num 0))

unfoldable pub time_at : List Text → Reader TimeTree
time_at names = mapped time_from (then (any_word names) (plus_at names))

unfoldable pub more_time_at : List Text → Reader TimeTree
more_time_at names = after Comma (time_at names)

-- a name alone, or with the name after a dot
abbrev pub named_value : NameTree × Option NameTree → ValueTree
named_value (name, None) = InputValue name
named_value (name, Some port) = OutputValue name port

unfoldable pub named_value_at : List Text → Reader ValueTree
named_value_at names = mapped named_value (then (name_at names) (optional (Dot ∷ []) (after Dot (name_at names))))

unfoldable pub made_literal_at : List Text → Reader ValueTree
made_literal_at names =
    mapped made_literal_from (after Lit (between LeftParen (then (closed (expression_at names) Comma) (expression_at names)) RightParen))

unfoldable pub value_at : List Text → Reader ValueTree
value_at names =
    either (Name ∷ []) (named_value_at names) (either (Literal ∷ []) (mapped literal_from any_literal) (made_literal_at names))

-- what a value begins with
abbrev pub value_set : List Sort
value_set = Name ∷ Literal ∷ Lit ∷ []

-- ---- statements

unfoldable pub times_at : List Text → Reader (List TimeTree)
times_at names = between LeftAngle (separated Comma (time_at names)) RightAngle

unfoldable pub values_at : List Text → Reader (List ValueTree)
values_at names = between LeftParen (listed Comma value_set (value_at names)) RightParen

unfoldable pub call_at : List Text → Reader GivingTree
call_at names = mapped giving_from (then (times_at names) (values_at names))

unfoldable pub given_parameters_at : List Text → Reader (List ExpressionTree)
given_parameters_at names =
    either (LeftBracket ∷ []) (between LeftBracket (separated Comma (expression_at names)) RightBracket) (empty [])

-- what follows the name of a statement is read as a function of that name
abbrev pub new_by : Text × (List ExpressionTree × Option GivingTree) → NameTree → StatementTree
new_by x name = made name x.0 x.1.0 x.1.1

abbrev pub call_by : NameTree × GivingTree → NameTree → StatementTree
call_by x name = Call name x.0 x.1

abbrev pub connect_by : ValueTree → NameTree → StatementTree
connect_by value name = Connect name value

-- after `new`
unfoldable pub new_at : List Text → Reader (NameTree → StatementTree)
new_at names =
    mapped new_by (then (any_word names) (closed (then (given_parameters_at names) (optional (LeftAngle ∷ []) (call_at names))) Semicolon))

-- after `:=`, where no `new` is
unfoldable pub called_at : List Text → Reader (NameTree → StatementTree)
called_at names = mapped call_by (then (name_at names) (closed (call_at names) Semicolon))

-- after `=`
unfoldable pub connected_at : List Text → Reader (NameTree → StatementTree)
connected_at names = mapped connect_by (closed (value_at names) Semicolon)

-- after the name of a statement
unfoldable pub named_statement_at : List Text → Reader (NameTree → StatementTree)
named_statement_at names =
    either (ColonEquals ∷ []) (after ColonEquals (either (New ∷ []) (after New (new_at names)) (called_at names))) (after Equals (connected_at names))

abbrev pub of_name : NameTree × (NameTree → StatementTree) → StatementTree
of_name x = x.1 x.0

unfoldable pub plain_statement_at : List Text → Reader StatementTree
plain_statement_at names = mapped of_name (then (name_at names) (named_statement_at names))

-- what a statement begins with
abbrev pub statement_set : List Sort
statement_set = Name ∷ For ∷ If ∷ []

-- a block, whose statements are read by the parameter
unfoldable pub block_by : Reader StatementTree → Reader (List StatementTree)
block_by statements = between LeftBrace (many statement_set statements) RightBrace

unfoldable pub range_at : List Text → Reader (Text × (ExpressionTree × ExpressionTree))
range_at names = then (any_word names) (after In (then (closed (expression_at names) DotDot) (expression_at names)))

unfoldable pub for_by : List Text → Reader StatementTree → Reader StatementTree
for_by names statements = mapped for_from (after For (then (range_at names) (block_by statements)))

unfoldable pub comparison_at : Reader Bool
comparison_at = either (EqualsEquals ∷ []) (mapped (λ _. false) (one EqualsEquals)) (mapped (λ _. true) (one LeftAngle))

unfoldable pub condition_at : List Text → Reader (ExpressionTree × (Bool × ExpressionTree))
condition_at names = then (expression_at names) (then comparison_at (expression_at names))

unfoldable pub maybe_else_by : Reader StatementTree → Reader (List StatementTree)
maybe_else_by statements = either (Else ∷ []) (after Else (block_by statements)) (empty [])

-- the two bodies of an `if`
unfoldable pub branches_by : Reader StatementTree → Reader (List StatementTree × List StatementTree)
branches_by statements = then (block_by statements) (maybe_else_by statements)

unfoldable pub if_by : List Text → Reader StatementTree → Reader StatementTree
if_by names statements = mapped if_from (after If (then (condition_at names) (branches_by statements)))

unfoldable pub statement_by : List Text → Reader StatementTree → Reader StatementTree
statement_by names statements =
    either (Name ∷ []) (plain_statement_at names) (either (For ∷ []) (for_by names statements) (if_by names statements))

-- with blocks less deep in one another than this
abbrev pub statement_to : List Text → ℕ → Reader StatementTree
statement_to names zero = λ ts. Err ts
statement_to names (suc depth) = statement_by names (statement_to names depth)

-- blocks stand less deep in one another than there are terminals
unfoldable pub body_at : List Text → Reader (List StatementTree)
body_at names ts = block_by (statement_to names (length ts)) ts

-- ---- signatures

-- after `@`
unfoldable pub placed_at : List Text → Reader PortTree
placed_at names =
    mapped port_from (after LeftBracket (then (closed (time_at names) Comma)
    (then (closed (time_at names) RightBracket) (then (closed (name_at names) Colon) (expression_at names)))))

unfoldable pub port_at : List Text → Reader PortTree
port_at names = after At (placed_at names)

-- after `interface`
unfoldable pub interface_at : List Text → Reader InterfaceTree
interface_at names =
    mapped interface_from (then (between LeftBracket (any_word names) RightBracket) (then (closed (name_at names) Colon) (expression_at names)))

unfoldable pub input_at : List Text → Reader InputTree
input_at names =
    after At (either (Interface ∷ []) (after Interface (mapped InterfacePort (interface_at names))) (mapped DataInput (placed_at names)))

unfoldable pub event_at : List Text → Reader EventTree
event_at names = mapped event_from (then (closed (any_word names) Colon) (expression_at names))

unfoldable pub more_event_at : List Text → Reader EventTree
more_event_at names = after Comma (event_at names)

unfoldable pub more_word_at : List Text → Reader Text
more_word_at names = after Comma (any_word names)

unfoldable pub parameters_at : List Text → Reader (List Text)
parameters_at names = either (LeftBracket ∷ []) (between LeftBracket (separated Comma (any_word names)) RightBracket) (empty [])

unfoldable pub events_at : List Text → Reader (List EventTree)
events_at names = between LeftAngle (separated Comma (event_at names)) RightAngle

unfoldable pub input_list_at : List Text → Reader (List InputTree)
input_list_at names = between LeftParen (listed Comma (At ∷ []) (input_at names)) RightParen

unfoldable pub inputs_at : List Text → Reader (List InterfaceTree × List PortTree)
inputs_at names = mapped inputs_from (input_list_at names)

unfoldable pub outputs_at : List Text → Reader (List PortTree)
outputs_at names = between LeftParen (listed Comma (At ∷ []) (port_at names)) RightParen

-- ---- components and files

unfoldable pub ports_at : List Text → Reader Ports
ports_at names = then (inputs_at names) (after Arrow (outputs_at names))

unfoldable pub component_at : List Text → Reader ComponentTree
component_at names =
    mapped component_from (after Comp (then (any_word names)
    (then (parameters_at names) (then (events_at names) (then (ports_at names) (body_at names))))))

unfoldable pub import_at : Reader (Unit {0})
import_at = after Import (closed (mapped (λ _. tt) (one sorts.Text)) Semicolon)

unfoldable pub imports_at : Reader (Unit {0})
imports_at = mapped (λ _. tt) (many (Import ∷ []) import_at)

unfoldable pub file_at : List Text → Reader DesignTree
file_at names = mapped design_from (then imports_at (then (component_at names) (many (Comp ∷ []) (component_at names))))
