-- Reading Calyx on lists: what the functions of the reader give. That each is exact for its rule of Grammar is proved in proofs/.
use Rattle.std.specs.Prelude.{ℕ, zero, suc, Bool, true, false, cond, List, [], ◌∷◌, length, Option, Some, None, Err}
use Rattle.hw_names.specs.Name.{Text}
use Rattle.hw_grammar.specs.declared.sort.Sort.{Sort}
use Rattle.hw_grammar.specs.declared.sort.Sort.TheVariants.{Name, Number, Literal, Import, Component, Cells, Wires, Control, Group, Comb, Seq, Par, If}
use Rattle.hw_grammar.specs.declared.sort.Sort.TheVariants.{Else, While, With, Invoke, At, LeftBracket, RightBracket, LeftParen, RightParen, LeftAngle}
use Rattle.hw_grammar.specs.declared.sort.Sort.TheVariants.{RightAngle, LeftBrace, RightBrace, Comma, Colon, Semicolon, Equals, Dot, Arrow, Question, Not}
use Rattle.hw_grammar.specs.declared.sort.Sort.TheVariants.{And, Or, EqualsEquals, NotEquals, AtMost, AtLeast}
use Rattle.hw_grammar.specs.declared.sort.Sort.TheVariants as sorts
use Rattle.hw_grammar.specs.declared.terminal.Special.TheVariants.{Done}
use Rattle.hw_grammar.specs.declared.terminal.Terminal.{Terminal}
use Rattle.hw_grammar.specs.Sort.{same_sort, has}
use Rattle.hw_grammar.specs.Reading.{Reader, one, one_special, empty, mapped, any_word, any_number, any_literal, then, then_by, either, optional}
use Rattle.hw_grammar.specs.Reading.{after, closed, between, many, separated, listed}
use Rattle.hw_prims.specs.Table.{Pin}
use Rattle.net_core.specs.declared.net.Cmp.{Cmp}
use Rattle.net_core.specs.declared.net.Cmp.TheVariants.{Eq, Neq, Lt, Gt, Le, Ge}
use Rattle.net_core.specs.Guard.{GuardTree, Reads, Compares, Negates, AllOf, AnyOf}
use Rattle.cal_ast.specs.Tree.{PortName, CellDef, Assignment, DoneLine, GroupDef, InBinding, OutBinding, Statement, ControlSection, Design}
use Rattle.cal_ast.specs.Tree as tree
use Rattle.cal_parse.specs.Grammar.{port_from, Source, port_source, literal_from, Guard, read_from, negated_from, test_from, all_from, any_from}
use Rattle.cal_parse.specs.Grammar.{is_external, is_some_true, either_from, meant_from, MeantPin, pin_from, inputs_from, outputs_from, cell_from}
use Rattle.cal_parse.specs.Grammar.{assignment_from, done_from, GroupLine, AssignmentLine, LineOfDone, lines_from, group_from, Wire, GroupWire}
use Rattle.cal_parse.specs.Grammar.{AssignmentWire, wires_from, in_from, out_from, seq_from, par_from, branch_from, if_from, while_from, invoke_from}
use Rattle.cal_parse.specs.Grammar.{control_from, component_from, design_from}

-- p, whose value is dropped, then q
abbrev pub past : {A B : Type 0} → Reader A → Reader B → Reader B
past p q = mapped (λ x. x.1) (then p q)

-- ---- ports, sources and guards

unfoldable pub port_at : List Text → Reader PortName
port_at names = mapped port_from (then (any_word names) (optional (Dot ∷ []) (after Dot (any_word names))))

unfoldable pub source_at : List Text → Reader Source
source_at names = either (Name ∷ []) (mapped port_source (port_at names)) (mapped literal_from any_literal)

abbrev pub compared : Sort → Cmp → Reader Cmp
compared sort op = mapped (λ _. op) (one sort)

unfoldable pub operator_at : Reader Cmp
operator_at =
    either (EqualsEquals ∷ []) (compared EqualsEquals Eq) (either (NotEquals ∷ []) (compared NotEquals Neq) (either (LeftAngle ∷ []) (compared LeftAngle Lt)
    (either (RightAngle ∷ []) (compared RightAngle Gt) (either (AtMost ∷ []) (compared AtMost Le) (compared AtLeast Ge)))))

-- what operators are
abbrev pub operators : List Sort
operators = EqualsEquals ∷ NotEquals ∷ LeftAngle ∷ RightAngle ∷ AtMost ∷ AtLeast ∷ []

unfoldable pub test_at : List Text → Reader Guard
test_at names = mapped test_from (then (source_at names) (optional operators (then operator_at (source_at names))))

abbrev pub is_not : Terminal → Bool
is_not t = same_sort t.sort Not

-- a guard behind so many `!`
abbrev pub negated : ℕ → Guard → Guard
negated zero guard = guard
negated (suc n) guard = Negates (negated n guard)

-- a guard behind a run of `!`
abbrev pub negations_from : List Terminal × Guard → Guard
negations_from (run, guard) = negated (length run) guard

-- guards in parentheses are read by the second parameter of these

-- what stands behind a run of `!`
unfoldable pub operand_by : List Text → Reader Guard → Reader Guard
operand_by names guards = either (LeftParen ∷ []) (between LeftParen guards RightParen) (mapped read_from (source_at names))

unfoldable pub negated_by : List Text → Reader Guard → Reader Guard
negated_by names guards = mapped negated_from (after Not (mapped negations_from (then (many (Not ∷ []) (one Not)) (operand_by names guards))))

unfoldable pub unit_by : List Text → Reader Guard → Reader Guard
unit_by names guards = either (Not ∷ []) (negated_by names guards) (either (LeftParen ∷ []) (between LeftParen guards RightParen) (test_at names))

unfoldable pub conjunction_by : List Text → Reader Guard → Reader Guard
conjunction_by names guards = mapped all_from (separated And (unit_by names guards))

unfoldable pub guard_by : List Text → Reader Guard → Reader Guard
guard_by names guards = mapped any_from (separated Or (conjunction_by names guards))

-- with parentheses less deep in one another than this
abbrev pub guard_to : List Text → ℕ → Reader Guard
guard_to names zero = λ ts. Err ts
guard_to names (suc depth) = guard_by names (guard_to names depth)

-- parentheses stand less deep in one another than there are terminals
unfoldable pub guard_at : List Text → Reader Guard
guard_at names ts = guard_to names (length ts) ts

-- ---- attributes

abbrev pub attribute_word_at : Sort → Reader Bool
attribute_word_at sort = mapped (λ t. is_external t.special) (one sort)

unfoldable pub attribute_at : Reader Bool
attribute_at = after At (mapped (λ x. x.0) (then (attribute_word_at Name) (optional (LeftParen ∷ []) (between LeftParen any_number RightParen))))

unfoldable pub attributes_at : Reader Bool
attributes_at = mapped is_some_true (many (At ∷ []) attribute_at)

unfoldable pub angle_entry_at : Reader Bool
angle_entry_at = mapped (λ x. x.0) (then (closed (attribute_word_at sorts.Text) Equals) any_number)

unfoldable pub more_entries_at : Reader Bool
more_entries_at = mapped is_some_true (many (Comma ∷ []) (after Comma angle_entry_at))

unfoldable pub entries_at : Reader Bool
entries_at = mapped either_from (then angle_entry_at more_entries_at)

unfoldable pub angle_at : Reader Bool
angle_at = between LeftAngle entries_at RightAngle

unfoldable pub maybe_angle_at : Reader Bool
maybe_angle_at = either (LeftAngle ∷ []) angle_at (empty false)

-- ---- signatures and cells

unfoldable pub pin_at : List Text → Reader MeantPin
pin_at names = past attributes_at (mapped pin_from (then (closed (mapped (meant_from names) (one Name)) Colon) any_number))

-- what a pin begins with
abbrev pub pin_set : List Sort
pin_set = At ∷ Name ∷ []

unfoldable pub inputs_at : List Text → Reader (List Pin)
inputs_at names = between LeftParen (mapped inputs_from (listed Comma pin_set (pin_at names))) RightParen

unfoldable pub outputs_at : List Text → Reader (List Pin)
outputs_at names = between LeftParen (mapped outputs_from (listed Comma pin_set (pin_at names))) RightParen

unfoldable pub more_number_at : Reader ℕ
more_number_at = after Comma any_number

unfoldable pub listed_numbers_at : Reader (List ℕ)
listed_numbers_at = either (Number ∷ []) (separated Comma any_number) (empty [])

unfoldable pub parameters_at : Reader (List ℕ)
parameters_at = between LeftParen listed_numbers_at RightParen

unfoldable pub cell_at : List Text → Reader CellDef
cell_at names =
    mapped cell_from (then attributes_at (then (any_word names) (then maybe_angle_at (after Equals (then (any_word names) (closed parameters_at Semicolon))))))

-- ---- assignments and groups

-- "?" source ";" behind a guard
abbrev pub asked_from : Guard → Source × Terminal → Option Guard × Source
asked_from guard x = (Some guard, x.0)

unfoldable pub asked_by : List Text → Guard → Reader (Option Guard × Source)
asked_by names guard = after Question (mapped (asked_from guard) (then (source_at names) (one Semicolon)))

abbrev pub alone_from : Source → Terminal → Option Guard × Source
alone_from source t = (None, source)

-- behind a guard that is a source alone, which may be the source of an assignment
abbrev pub behind_by : List Text → Guard → Reader (Option Guard × Source)
behind_by names (Reads source) = either (Question ∷ []) (asked_by names (Reads source)) (mapped (alone_from source) (one Semicolon))
behind_by names (Compares op left right) = asked_by names (Compares op left right)
behind_by names (Negates guard) = asked_by names (Negates guard)
behind_by names (AllOf guards) = asked_by names (AllOf guards)
behind_by names (AnyOf guards) = asked_by names (AnyOf guards)

-- what no source begins with
abbrev pub guard_marks : List Sort
guard_marks = Not ∷ LeftParen ∷ []

unfoldable pub setting_at : List Text → Reader (Option Guard × Source)
setting_at names ts =
    cond (has guard_marks ts)
    (mapped (λ x. x.1) (then_by (guard_at names) (asked_by names)) ts)
    (mapped (λ x. x.1) (then_by (guard_at names) (behind_by names)) ts)

unfoldable pub assignment_at : List Text → Reader Assignment
assignment_at names = mapped assignment_from (then (closed (port_at names) Equals) (setting_at names))

unfoldable pub done_mark_at : Reader (Unit {0})
done_mark_at = between LeftBracket (mapped (λ _. tt) (one_special Done)) RightBracket

-- what follows the name of a line is read as a function of that name
abbrev pub done_by : Option Guard × Source → Text → GroupLine
done_by x name = LineOfDone (done_from (name, x))

abbrev pub assignment_by : Option Text × (Option Guard × Source) → Text → GroupLine
assignment_by x name = AssignmentLine (assignment_from (port_from (name, x.0), x.1))

unfoldable pub dotted_at : List Text → Reader (Option Text)
dotted_at names = optional (Dot ∷ []) (after Dot (any_word names))

-- after the name of a line
unfoldable pub named_line_at : List Text → Reader (Text → GroupLine)
named_line_at names =
    either (LeftBracket ∷ []) (mapped done_by (past done_mark_at (after Equals (setting_at names))))
    (mapped assignment_by (then (closed (dotted_at names) Equals) (setting_at names)))

abbrev pub of_name : Text × (Text → GroupLine) → GroupLine
of_name x = x.1 x.0

unfoldable pub line_at : List Text → Reader GroupLine
line_at names = past attributes_at (mapped of_name (then (any_word names) (named_line_at names)))

unfoldable pub lines_at : List Text → Reader (List Assignment × List DoneLine)
lines_at names = mapped lines_from (many pin_set (line_at names))

unfoldable pub maybe_comb_at : Reader Bool
maybe_comb_at = either (Comb ∷ []) (mapped (λ _. true) (one Comb)) (empty false)

unfoldable pub group_at : List Text → Reader GroupDef
group_at names =
    mapped group_from (then maybe_comb_at (after Group (then (any_word names) (past maybe_angle_at (between LeftBrace (lines_at names) RightBrace)))))

unfoldable pub wire_at : List Text → Reader Wire
wire_at names = past attributes_at (either (Comb ∷ Group ∷ []) (mapped GroupWire (group_at names)) (mapped AssignmentWire (assignment_at names)))

-- what a group or an assignment begins with
abbrev pub wire_set : List Sort
wire_set = At ∷ Comb ∷ Group ∷ Name ∷ []

unfoldable pub wire_list_at : List Text → Reader (List GroupDef × List Assignment)
wire_list_at names = mapped wires_from (many wire_set (wire_at names))

unfoldable pub wires_at : List Text → Reader (List GroupDef × List Assignment)
wires_at names = after Wires (between LeftBrace (wire_list_at names) RightBrace)

-- ---- control

unfoldable pub in_binding_at : List Text → Reader InBinding
in_binding_at names = mapped in_from (then (closed (any_word names) Equals) (source_at names))

unfoldable pub out_binding_at : List Text → Reader OutBinding
out_binding_at names = mapped out_from (then (closed (any_word names) Equals) (port_at names))

unfoldable pub in_bindings_at : List Text → Reader (List InBinding)
in_bindings_at names = between LeftParen (listed Comma (Name ∷ []) (in_binding_at names)) RightParen

unfoldable pub out_bindings_at : List Text → Reader (List OutBinding)
out_bindings_at names = between LeftParen (listed Comma (Name ∷ []) (out_binding_at names)) RightParen

-- what a statement begins with
abbrev pub statement_set : List Sort
statement_set = At ∷ Name ∷ Seq ∷ Par ∷ If ∷ While ∷ Invoke ∷ []

-- a block, whose statements are read by the parameter
unfoldable pub block_by : Reader Statement → Reader (List Statement)
block_by statements = between LeftBrace (many statement_set statements) RightBrace

unfoldable pub enable_at : List Text → Reader Statement
enable_at names = mapped tree.Enable (closed (any_word names) Semicolon)

unfoldable pub maybe_with_at : List Text → Reader (Option Text)
maybe_with_at names = optional (With ∷ []) (after With (any_word names))

-- the block of an `if` or a `while`
unfoldable pub branch_by : Reader Statement → Reader Statement
branch_by statements = mapped branch_from (block_by statements)

unfoldable pub maybe_else_by : Reader Statement → Reader Statement
maybe_else_by statements = either (Else ∷ []) (after Else (branch_by statements)) (empty (branch_from []))

unfoldable pub condition_at : List Text → Reader (PortName × Option Text)
condition_at names = then (port_at names) (maybe_with_at names)

-- the two branches of an `if`
unfoldable pub branches_by : Reader Statement → Reader (Statement × Statement)
branches_by statements = then (branch_by statements) (maybe_else_by statements)

unfoldable pub if_by : List Text → Reader Statement → Reader Statement
if_by names statements = mapped if_from (after If (then (condition_at names) (branches_by statements)))

unfoldable pub while_by : List Text → Reader Statement → Reader Statement
while_by names statements = mapped while_from (after While (then (condition_at names) (branch_by statements)))

unfoldable pub invoke_at : List Text → Reader Statement
invoke_at names = mapped invoke_from (after Invoke (then (any_word names) (then (in_bindings_at names) (closed (out_bindings_at names) Semicolon))))

-- a statement without its attributes
unfoldable pub plain_statement_by : List Text → Reader Statement → Reader Statement
plain_statement_by names statements =
    either (Name ∷ []) (enable_at names)
    (either (Seq ∷ []) (mapped seq_from (after Seq (block_by statements)))
    (either (Par ∷ []) (mapped par_from (after Par (block_by statements)))
    (either (If ∷ []) (if_by names statements)
    (either (While ∷ []) (while_by names statements)
    (invoke_at names)))))

unfoldable pub statement_by : List Text → Reader Statement → Reader Statement
statement_by names statements = past attributes_at (plain_statement_by names statements)

-- with blocks less deep in one another than this
abbrev pub statement_to : List Text → ℕ → Reader Statement
statement_to names zero = λ ts. Err ts
statement_to names (suc depth) = statement_by names (statement_to names depth)

-- blocks stand less deep in one another than there are terminals
unfoldable pub maybe_control_at : List Text → Reader ControlSection
maybe_control_at names ts = either (Control ∷ []) (mapped control_from (after Control (block_by (statement_to names (length ts))))) (empty tree.Absent) ts

-- ---- components and files

unfoldable pub maybe_outputs_at : List Text → Reader (List Pin)
maybe_outputs_at names = either (Arrow ∷ []) (after Arrow (outputs_at names)) (empty [])

unfoldable pub cells_at : List Text → Reader (List CellDef)
cells_at names = after Cells (between LeftBrace (many pin_set (cell_at names)) RightBrace)

unfoldable pub component_body_at : List Text → Reader (List CellDef × ((List GroupDef × List Assignment) × ControlSection))
component_body_at names = between LeftBrace (then (cells_at names) (then (wires_at names) (maybe_control_at names))) RightBrace

unfoldable pub component_at : List Text → Reader tree.Component
component_at names =
    past attributes_at (mapped component_from
    (after Component (then (any_word names) (past maybe_angle_at (then (inputs_at names) (then (maybe_outputs_at names) (component_body_at names)))))))

unfoldable pub import_at : Reader (Unit {0})
import_at = after Import (closed (mapped (λ _. tt) (one sorts.Text)) Semicolon)

-- what a component begins with
abbrev pub component_set : List Sort
component_set = At ∷ Component ∷ []

unfoldable pub components_at : List Text → Reader Design
components_at names = mapped design_from (then (component_at names) (many component_set (component_at names)))

unfoldable pub imports_at : Reader (Unit {0})
imports_at = mapped (λ _. tt) (many (Import ∷ []) import_at)

unfoldable pub file_at : List Text → Reader Design
file_at names = past imports_at (components_at names)
