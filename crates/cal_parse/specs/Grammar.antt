-- The grammar of Calyx. Calyx, ASPLOS 2021, in this project's profile. Each rule stands in the comment before it, as it is written with
-- `{ }` for any number and `[ ]` for what may be missing. `names` are the names that the numbers of terminals stand for.
use Rattle.std.specs.Prelude.{◌≡◌, ℕ, zero, suc, Bool, true, false, ◌||◌, cond, List, [], ◌∷◌, map, Option, Some, None}
use Rattle.hw_names.specs.Name.{Text, text_of}
use Rattle.hw_grammar.specs.declared.sort.Sort.{Sort}
use Rattle.hw_grammar.specs.declared.sort.Sort.TheVariants.{Name, Import, Component, Cells, Wires, Control, Group, Comb, Seq, Par, If, Else, While, With}
use Rattle.hw_grammar.specs.declared.sort.Sort.TheVariants.{Invoke, At, LeftBracket, RightBracket, LeftParen, RightParen, LeftAngle, RightAngle, LeftBrace}
use Rattle.hw_grammar.specs.declared.sort.Sort.TheVariants.{RightBrace, Comma, Colon, Semicolon, Equals, Dot, Arrow, Question, Not, And, Or, EqualsEquals}
use Rattle.hw_grammar.specs.declared.sort.Sort.TheVariants.{NotEquals, AtMost, AtLeast}
use Rattle.hw_grammar.specs.declared.sort.Sort.TheVariants as sorts
use Rattle.hw_grammar.specs.declared.terminal.Special.{Special}
use Rattle.hw_grammar.specs.declared.terminal.Special.TheVariants.{External, Clock, Reset, Done, Plain}
use Rattle.hw_grammar.specs.declared.terminal.Terminal.{Terminal}
use Rattle.hw_grammar.specs.Grammar.{Lang, One, OneSpecial, Empty, Mapped, AnyWord, AnyNumber, AnyLiteral, Then, Either, Optional, After, Closed, Between}
use Rattle.hw_grammar.specs.Grammar.{Many, Separated, Listed}
use Rattle.hw_prims.specs.Table.{Pin}
use Rattle.net_core.specs.declared.net.Src.{Src}
use Rattle.net_core.specs.declared.net.Src.TheVariants.{Port, Lit}
use Rattle.net_core.specs.declared.net.Cmp.{Cmp}
use Rattle.net_core.specs.declared.net.Cmp.TheVariants.{Eq, Neq, Lt, Gt, Le, Ge}
use Rattle.net_core.specs.Guard.{GuardTree, Reads, Compares, Negates, AllOf, AnyOf, guards_of}
use Rattle.cal_ast.specs.Tree.{PortName, own, port_of, CellDef, Assignment, DoneLine, GroupDef, InBinding, OutBinding, Statement, Statements, NoStatements}
use Rattle.cal_ast.specs.Tree.{MoreStatements, ControlSection, Design}
use Rattle.cal_ast.specs.Tree as tree

-- P, which leaves no trace, then Q
abbrev pub Past : {A B : Type 0} → Lang A → Lang B → Lang B
Past P Q = Mapped (λ x. x.1) (Then P Q)

-- ---- ports, sources and guards

abbrev pub port_from : Text × Option Text → PortName
port_from (pin, None) = own pin
port_from (cell, Some pin) = port_of cell pin

-- port = NAME ["." NAME]
abbrev pub IsPort : List Text → Lang PortName
IsPort names = Mapped port_from (Then (AnyWord names) (Optional (After Dot (AnyWord names))))

abbrev pub Source : Type 0
Source = Src PortName

abbrev pub port_source : PortName → Source
port_source port = Port port

abbrev pub literal_from : ℕ × ℕ → Source
literal_from (width, value) = Lit width value

-- source = port | LITERAL
abbrev pub IsSource : List Text → Lang Source
IsSource names = Either (Mapped port_source (IsPort names)) (Mapped literal_from AnyLiteral)

-- a terminal of the sort, for this comparison
abbrev pub Compared : Sort → Cmp → Lang Cmp
Compared sort op = Mapped (λ _. op) (One sort)

-- op = "==" | "!=" | "<" | ">" | "<=" | ">="
abbrev pub IsOperator : Lang Cmp
IsOperator =
    Either (Compared EqualsEquals Eq) (Either (Compared NotEquals Neq) (Either (Compared LeftAngle Lt) (Either (Compared RightAngle Gt)
    (Either (Compared AtMost Le) (Compared AtLeast Ge)))))

abbrev pub Guard : Type 0
Guard = GuardTree PortName

abbrev pub read_from : Source → Guard
read_from source = Reads source

abbrev pub negated_from : Guard → Guard
negated_from guard = Negates guard

abbrev pub test_from : Source × Option (Cmp × Source) → Guard
test_from (left, None) = Reads left
test_from (left, Some (op, right)) = Compares op left right

-- source [op source]
abbrev pub IsTest : List Text → Lang Guard
IsTest names = Mapped test_from (Then (IsSource names) (Optional (Then IsOperator (IsSource names))))

-- tight = "!" tight | "(" guard ")" | source
abbrev pub TightOf : List Text → Lang Guard → Lang Guard → Lang Guard
TightOf names IsTight IsGuard =
    Either (Mapped negated_from (After Not IsTight)) (Either (Between LeftParen IsGuard RightParen) (Mapped read_from (IsSource names)))

-- unit = "!" tight | "(" guard ")" | source [op source]
abbrev pub UnitOf : List Text → Lang Guard → Lang Guard → Lang Guard
UnitOf names IsTight IsGuard = Either (Mapped negated_from (After Not IsTight)) (Either (Between LeftParen IsGuard RightParen) (IsTest names))

-- a list of one guard is that guard
abbrev pub all_from : List Guard → Guard
all_from (g ∷ []) = g
all_from gs = AllOf (guards_of gs)

abbrev pub any_from : List Guard → Guard
any_from (g ∷ []) = g
any_from gs = AnyOf (guards_of gs)

-- conj = unit {"&" unit}
abbrev pub ConjunctionOf : List Text → Lang Guard → Lang Guard → Lang Guard
ConjunctionOf names IsTight IsGuard = Mapped all_from (Separated And (UnitOf names IsTight IsGuard))

-- guard = conj {"|" conj}
abbrev pub GuardOf : List Text → Lang Guard → Lang Guard → Lang Guard
GuardOf names IsTight IsGuard = Mapped any_from (Separated Or (ConjunctionOf names IsTight IsGuard))

-- these two, with `!` and parentheses at most so deep in one another; the innermost are sources
abbrev mutual
  pub TightTo : List Text → ℕ → Lang Guard
  TightTo names zero = Mapped read_from (IsSource names)
  TightTo names (suc depth) = TightOf names (TightTo names depth) (GuardTo names depth)

  pub GuardTo : List Text → ℕ → Lang Guard
  GuardTo names zero = Mapped read_from (IsSource names)
  GuardTo names (suc depth) = GuardOf names (TightTo names depth) (GuardTo names depth)

abbrev pub IsTight : List Text → Lang Guard
IsTight names ts guard rest = (depth : ℕ) × TightTo names depth ts guard rest

abbrev pub IsGuard : List Text → Lang Guard
IsGuard names ts guard rest = (depth : ℕ) × GuardTo names depth ts guard rest

-- ---- attributes, which leave no trace but at cells

-- whether the word is that of the attribute which cells keep
abbrev pub is_external : Special → Bool
is_external External = true
is_external _ = false

-- whether one of these is true
abbrev pub is_some_true : List Bool → Bool
is_some_true [] = false
is_some_true (b ∷ bs) = b || is_some_true bs

-- NAME or STRING of an attribute
abbrev pub IsAttributeWord : Sort → Lang Bool
IsAttributeWord sort = Mapped (λ t. is_external t.special) (One sort)

-- "@" NAME ["(" NUMBER ")"]
abbrev pub IsAttribute : Lang Bool
IsAttribute = After At (Mapped (λ x. x.0) (Then (IsAttributeWord Name) (Optional (Between LeftParen AnyNumber RightParen))))

-- attrs = {"@" NAME ["(" NUMBER ")"]}
abbrev pub AreAttributes : Lang Bool
AreAttributes = Mapped is_some_true (Many IsAttribute)

-- STRING "=" NUMBER
abbrev pub IsAngleEntry : Lang Bool
IsAngleEntry = Mapped (λ x. x.0) (Then (Closed (IsAttributeWord sorts.Text) Equals) AnyNumber)

-- whether the first or one of the others is true
abbrev pub either_from : Bool × Bool → Bool
either_from (first, later) = first || later

-- STRING "=" NUMBER {"," STRING "=" NUMBER}
abbrev pub AreAngleEntries : Lang Bool
AreAngleEntries = Mapped either_from (Then IsAngleEntry (Mapped is_some_true (Many (After Comma IsAngleEntry))))

-- angle = "<" STRING "=" NUMBER {"," STRING "=" NUMBER} ">"
abbrev pub IsAngle : Lang Bool
IsAngle = Between LeftAngle AreAngleEntries RightAngle

-- [angle]
abbrev pub MaybeAngle : Lang Bool
MaybeAngle = Either IsAngle (Empty false)

-- ---- signatures and cells

abbrev pub meant_from : (names : List Text) → Terminal → Text × Special
meant_from names t = (text_of names t.name, t.special)

-- a port, and what its name means beside the grammar
abbrev pub MeantPin : Type 0
MeantPin = Special × Pin

abbrev pub pin_from : (Text × Special) × ℕ → MeantPin
pin_from ((name, meant), width) = (meant, record { name = name; width = width })

-- attrs NAME ":" NUMBER
abbrev pub IsPin : List Text → Lang MeantPin
IsPin names = Past AreAttributes (Mapped pin_from (Then (Closed (Mapped (meant_from names) (One Name)) Colon) AnyNumber))

-- [pins], where pins = attrs NAME ":" NUMBER {"," attrs NAME ":" NUMBER} [","]
abbrev pub ArePins : List Text → Lang (List MeantPin)
ArePins names = Listed Comma (IsPin names)

-- inputs named `clk` and `reset` leave no trace
abbrev pub is_dropped : Special → Bool
is_dropped Clock = true
is_dropped Reset = true
is_dropped _ = false

abbrev pub inputs_from : List MeantPin → List Pin
inputs_from [] = []
inputs_from ((meant, pin) ∷ pins) = cond (is_dropped meant) (inputs_from pins) (pin ∷ inputs_from pins)

-- "(" [pins] ")" of inputs
abbrev pub AreInputs : List Text → Lang (List Pin)
AreInputs names = Between LeftParen (Mapped inputs_from (ArePins names)) RightParen

abbrev pub outputs_from : List MeantPin → List Pin
outputs_from pins = map (λ (x : MeantPin). x.1) pins

-- "(" [pins] ")" of outputs
abbrev pub AreOutputs : List Text → Lang (List Pin)
AreOutputs names = Between LeftParen (Mapped outputs_from (ArePins names)) RightParen

-- "(" [NUMBER {"," NUMBER}] ")"
abbrev pub AreParameters : Lang (List ℕ)
AreParameters = Between LeftParen (Either (Separated Comma AnyNumber) (Empty [])) RightParen

-- `@external` and `<"external"=N>` say the same of a cell
abbrev pub cell_from : Bool × (Text × (Bool × (Text × List ℕ))) → CellDef
cell_from (external, (name, (in_angle, (made, params)))) = record { name = name; made = made; params = params; external = external || in_angle }

-- cell = attrs NAME [angle] "=" NAME "(" [NUMBER {"," NUMBER}] ")" ";"
abbrev pub IsCell : List Text → Lang CellDef
IsCell names =
    Mapped cell_from (Then AreAttributes (Then (AnyWord names) (Then MaybeAngle (After Equals (Then (AnyWord names) (Closed AreParameters Semicolon))))))

-- ---- assignments and groups

-- [guard "?"] source ";"
abbrev pub IsSetting : List Text → Lang (Option Guard × Source)
IsSetting names = Then (Optional (Closed (IsGuard names) Question)) (Closed (IsSource names) Semicolon)

abbrev pub assignment_from : PortName × (Option Guard × Source) → Assignment
assignment_from (dst, (guard, src)) = record { dst = dst; guard = guard; src = src }

-- assign = port "=" [guard "?"] source ";"
abbrev pub IsAssignment : List Text → Lang Assignment
IsAssignment names = Mapped assignment_from (Then (Closed (IsPort names) Equals) (IsSetting names))

-- "[" "done" "]"
abbrev pub IsDoneMark : Lang (Unit {0})
IsDoneMark = Between LeftBracket (Mapped (λ _. tt) (OneSpecial Done)) RightBracket

abbrev pub done_from : Text × (Option Guard × Source) → DoneLine
done_from (group, (guard, src)) = record { group = group; guard = guard; src = src }

-- done = NAME "[" "done" "]" "=" [guard "?"] source ";"
abbrev pub IsDoneLine : List Text → Lang DoneLine
IsDoneLine names = Mapped done_from (Then (AnyWord names) (Past IsDoneMark (After Equals (IsSetting names))))

-- what stands in a group
pub data GroupLine : Type 0 where
  AssignmentLine : Assignment → GroupLine
  LineOfDone : DoneLine → GroupLine

-- attrs (assign | done)
abbrev pub IsGroupLine : List Text → Lang GroupLine
IsGroupLine names = Past AreAttributes (Either (Mapped AssignmentLine (IsAssignment names)) (Mapped LineOfDone (IsDoneLine names)))

-- a group's assignments and its done lines are two lists of the tree
abbrev pub assignments_in : List GroupLine → List Assignment
assignments_in [] = []
assignments_in (AssignmentLine a ∷ lines) = a ∷ assignments_in lines
assignments_in (LineOfDone d ∷ lines) = assignments_in lines

abbrev pub dones_in : List GroupLine → List DoneLine
dones_in [] = []
dones_in (AssignmentLine a ∷ lines) = dones_in lines
dones_in (LineOfDone d ∷ lines) = d ∷ dones_in lines

abbrev pub lines_from : List GroupLine → List Assignment × List DoneLine
lines_from lines = (assignments_in lines, dones_in lines)

-- {attrs (assign | done)}
abbrev pub AreGroupLines : List Text → Lang (List Assignment × List DoneLine)
AreGroupLines names = Mapped lines_from (Many (IsGroupLine names))

-- ["comb"]
abbrev pub MaybeComb : Lang Bool
MaybeComb = Either (Mapped (λ _. true) (One Comb)) (Empty false)

abbrev pub group_from : Bool × (Text × (List Assignment × List DoneLine)) → GroupDef
group_from (comb, (name, (sets, dones))) = record { name = name; comb = comb; sets = sets; dones = dones }

-- group = ["comb"] "group" NAME [angle] "{" {attrs (assign | done)} "}"
abbrev pub IsGroup : List Text → Lang GroupDef
IsGroup names =
    Mapped group_from (Then MaybeComb (After Group (Then (AnyWord names) (Past MaybeAngle (Between LeftBrace (AreGroupLines names) RightBrace)))))

-- what stands in the wires of a component
pub data Wire : Type 0 where
  GroupWire : GroupDef → Wire
  AssignmentWire : Assignment → Wire

-- attrs (group | assign)
abbrev pub IsWire : List Text → Lang Wire
IsWire names = Past AreAttributes (Either (Mapped GroupWire (IsGroup names)) (Mapped AssignmentWire (IsAssignment names)))

-- groups and continuous assignments are two lists of the tree
abbrev pub groups_in : List Wire → List GroupDef
groups_in [] = []
groups_in (GroupWire g ∷ wires) = g ∷ groups_in wires
groups_in (AssignmentWire a ∷ wires) = groups_in wires

abbrev pub sets_in : List Wire → List Assignment
sets_in [] = []
sets_in (GroupWire g ∷ wires) = sets_in wires
sets_in (AssignmentWire a ∷ wires) = a ∷ sets_in wires

abbrev pub wires_from : List Wire → List GroupDef × List Assignment
wires_from wires = (groups_in wires, sets_in wires)

-- ---- control

abbrev pub in_from : Text × Source → InBinding
in_from (pin, src) = record { pin = pin; src = src }

-- ib = NAME "=" source
abbrev pub IsInBinding : List Text → Lang InBinding
IsInBinding names = Mapped in_from (Then (Closed (AnyWord names) Equals) (IsSource names))

abbrev pub out_from : Text × PortName → OutBinding
out_from (pin, dst) = record { pin = pin; dst = dst }

-- ob = NAME "=" port
abbrev pub IsOutBinding : List Text → Lang OutBinding
IsOutBinding names = Mapped out_from (Then (Closed (AnyWord names) Equals) (IsPort names))

-- block = "{" {stmt} "}"
abbrev pub BlockOf : Lang Statement → Lang (List Statement)
BlockOf IsStatement = Between LeftBrace (Many IsStatement) RightBrace

abbrev pub statements_from : List Statement → Statements
statements_from [] = NoStatements
statements_from (s ∷ ss) = MoreStatements s (statements_from ss)

abbrev pub seq_from : List Statement → Statement
seq_from ss = tree.Seq (statements_from ss)

abbrev pub par_from : List Statement → Statement
par_from ss = tree.Par (statements_from ss)

-- a block of an `if` or a `while` with one statement is that statement
abbrev pub branch_from : List Statement → Statement
branch_from (s ∷ []) = s
branch_from ss = seq_from ss

-- NAME ";"
abbrev pub IsEnable : List Text → Lang Statement
IsEnable names = Mapped tree.Enable (Closed (AnyWord names) Semicolon)

-- ["with" NAME]
abbrev pub MaybeWith : List Text → Lang (Option Text)
MaybeWith names = Optional (After With (AnyWord names))

-- a block of an `if` or a `while`
abbrev pub BranchOf : Lang Statement → Lang Statement
BranchOf IsStatement = Mapped branch_from (BlockOf IsStatement)

-- ["else" block]; a branch that is missing is an empty `seq`
abbrev pub MaybeElse : Lang Statement → Lang Statement
MaybeElse IsStatement = Either (After Else (BranchOf IsStatement)) (Empty (branch_from []))

-- port ["with" NAME]
abbrev pub IsCondition : List Text → Lang (PortName × Option Text)
IsCondition names = Then (IsPort names) (MaybeWith names)

abbrev pub if_from : (PortName × Option Text) × (Statement × Statement) → Statement
if_from ((port, by), (s, t)) = tree.If port by s t

-- "if" port ["with" NAME] block ["else" block]
abbrev pub IfOf : List Text → Lang Statement → Lang Statement
IfOf names IsStatement =
    Mapped if_from (After If (Then (IsCondition names) (Then (BranchOf IsStatement) (MaybeElse IsStatement))))

abbrev pub while_from : (PortName × Option Text) × Statement → Statement
while_from ((port, by), s) = tree.While port by s

-- "while" port ["with" NAME] block
abbrev pub WhileOf : List Text → Lang Statement → Lang Statement
WhileOf names IsStatement = Mapped while_from (After While (Then (IsCondition names) (BranchOf IsStatement)))

abbrev pub invoke_from : Text × (List InBinding × List OutBinding) → Statement
invoke_from (cell, (ins, outs)) = tree.Invoke cell ins outs

-- "(" [ib {"," ib} [","]] ")"
abbrev pub AreInBindings : List Text → Lang (List InBinding)
AreInBindings names = Between LeftParen (Listed Comma (IsInBinding names)) RightParen

-- "(" [ob {"," ob} [","]] ")"
abbrev pub AreOutBindings : List Text → Lang (List OutBinding)
AreOutBindings names = Between LeftParen (Listed Comma (IsOutBinding names)) RightParen

-- "invoke" NAME "(" [ib {"," ib} [","]] ")" "(" [ob {"," ob} [","]] ")" ";"
abbrev pub IsInvoke : List Text → Lang Statement
IsInvoke names = Mapped invoke_from (After Invoke (Then (AnyWord names) (Then (AreInBindings names) (Closed (AreOutBindings names) Semicolon))))

-- stmt = attrs (NAME ";" | "seq" block | "par" block
--      | "if" port ["with" NAME] block ["else" block]
--      | "while" port ["with" NAME] block
--      | "invoke" NAME "(" [ib {"," ib} [","]] ")" "(" [ob {"," ob} [","]] ")" ";")
abbrev pub StatementOf : List Text → Lang Statement → Lang Statement
StatementOf names IsStatement =
    Past AreAttributes (Either (IsEnable names)
    (Either (Mapped seq_from (After Seq (BlockOf IsStatement)))
    (Either (Mapped par_from (After Par (BlockOf IsStatement)))
    (Either (IfOf names IsStatement)
    (Either (WhileOf names IsStatement)
    (IsInvoke names))))))

-- a statement with blocks at most so deep in one another; the innermost are enables
abbrev pub StatementTo : List Text → ℕ → Lang Statement
StatementTo names zero = IsEnable names
StatementTo names (suc depth) = StatementOf names (StatementTo names depth)

abbrev pub IsStatement : List Text → Lang Statement
IsStatement names ts statement rest = (depth : ℕ) × StatementTo names depth ts statement rest

-- a control section with one statement is that statement
abbrev pub control_from : List Statement → ControlSection
control_from [] = tree.Empty
control_from (s ∷ []) = tree.Body s
control_from ss = tree.Body (seq_from ss)

-- ["control" "{" {stmt} "}"]
abbrev pub MaybeControl : List Text → Lang ControlSection
MaybeControl names = Either (Mapped control_from (After Control (BlockOf (IsStatement names)))) (Empty tree.Absent)

-- ---- components and files

-- ["->" "(" [pins] ")"]
abbrev pub MaybeOutputs : List Text → Lang (List Pin)
MaybeOutputs names = Either (After Arrow (AreOutputs names)) (Empty [])

-- "cells" "{" {cell} "}"
abbrev pub AreCells : List Text → Lang (List CellDef)
AreCells names = After Cells (Between LeftBrace (Many (IsCell names)) RightBrace)

-- "wires" "{" {attrs (group | assign)} "}"
abbrev pub AreWires : List Text → Lang (List GroupDef × List Assignment)
AreWires names = After Wires (Between LeftBrace (Mapped wires_from (Many (IsWire names))) RightBrace)

-- the cells, the groups and the continuous assignments, and the control of a component
abbrev pub BodyParts : Type 0
BodyParts = List CellDef × ((List GroupDef × List Assignment) × ControlSection)

abbrev pub component_from : Text × (List Pin × (List Pin × BodyParts)) → tree.Component
component_from (name, (ins, (outs, (cells, ((groups, sets), control))))) =
    record { name = name; ins = ins; outs = outs; cells = cells; groups = groups; sets = sets; control = control }

-- "{" "cells" "{" {cell} "}" "wires" "{" {attrs (group | assign)} "}" ["control" "{" {stmt} "}"] "}"
abbrev pub IsComponentBody : List Text → Lang BodyParts
IsComponentBody names = Between LeftBrace (Then (AreCells names) (Then (AreWires names) (MaybeControl names))) RightBrace

-- comp = attrs "component" NAME [angle] "(" [pins] ")" ["->" "(" [pins] ")"] "{"
--        "cells" "{" {cell} "}" "wires" "{" {attrs (group | assign)} "}"
--        ["control" "{" {stmt} "}"] "}"
abbrev pub IsComponent : List Text → Lang tree.Component
IsComponent names =
    Past AreAttributes (Mapped component_from
    (After Component (Then (AnyWord names) (Past MaybeAngle (Then (AreInputs names) (Then (MaybeOutputs names) (IsComponentBody names)))))))

-- "import" STRING ";"
abbrev pub IsImport : Lang (Unit {0})
IsImport = After Import (Closed (Mapped (λ _. tt) (One sorts.Text)) Semicolon)

-- {"import" STRING ";"}; a tree has no trace of it
abbrev pub AreImports : Lang (Unit {0})
AreImports = Mapped (λ _. tt) (Many IsImport)

abbrev pub design_from : tree.Component × List tree.Component → Design
design_from (first, others) = first ∷ others

-- file = {"import" STRING ";"} comp {comp}
abbrev pub IsFile : List Text → Lang Design
IsFile names = Past AreImports (Mapped design_from (Then (IsComponent names) (Many (IsComponent names))))
