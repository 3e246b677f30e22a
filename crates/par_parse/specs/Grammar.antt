-- The grammar of Filament with parameters. Filament, PLDI 2023, in this project's profile, with parameters, loops and names with an index, which
-- are this project's. Each rule stands in the comment before it, as it is written with `{ }` for any number and `[ ]` for what may be missing.
-- `names` are the names that the numbers of terminals stand for.
use Rattle.std.specs.Prelude.{ℕ, zero, suc, Bool, true, false, List, [], ◌∷◌, Option, Some, None}
use Rattle.hw_names.specs.Name.{Text}
use Rattle.hw_grammar.specs.declared.sort.Sort.TheVariants.{Comp, New, Interface, Import, For, In, If, Else, Lit, At, LeftBracket, RightBracket}
use Rattle.hw_grammar.specs.declared.sort.Sort.TheVariants.{LeftParen, RightParen, LeftAngle, RightAngle, LeftBrace, RightBrace, Comma, Colon}
use Rattle.hw_grammar.specs.declared.sort.Sort.TheVariants.{ColonEquals, Semicolon, Equals, Plus, Minus, Star, Hash, Dot, DotDot, Arrow, EqualsEquals}
use Rattle.hw_grammar.specs.declared.sort.Sort.TheVariants as sorts
use Rattle.hw_grammar.specs.Grammar.{Lang, One, Empty, Mapped, AnyWord, AnyNumber, AnyLiteral, Then, Either, Optional, After, Closed, Between, Many, Separated}
use Rattle.hw_grammar.specs.Grammar.{Listed}
use Rattle.par_parse.specs.Tree.{ExpressionTree, Num, Sum, Product, expressions_of, NameTree, TimeTree, EventTree, InterfaceTree}
use Rattle.par_parse.specs.Tree.{PortTree, ValueTree, InputValue, OutputValue, Literal, MadeLiteral, GivingTree, StatementTree, Call, Both, Connect}
use Rattle.par_parse.specs.Tree.{statements_of, ComponentTree, DesignTree}
use Rattle.par_parse.specs.Tree as tree

-- ---- expressions

-- atom = NUMBER | NAME | "(" expr ")"
abbrev pub AtomOf : List Text → Lang ExpressionTree → Lang ExpressionTree
AtomOf names IsExpression =
    Either (Mapped Num AnyNumber) (Either (Mapped tree.Name (AnyWord names)) (Between LeftParen IsExpression RightParen))

-- an atom alone is itself
abbrev pub product_from : List ExpressionTree → ExpressionTree
product_from (e ∷ []) = e
product_from es = Product (expressions_of es)

-- term = atom {"*" atom}
abbrev pub TermOf : List Text → Lang ExpressionTree → Lang ExpressionTree
TermOf names IsExpression = Mapped product_from (Separated Star (AtomOf names IsExpression))

abbrev pub minus_from : ExpressionTree → ExpressionTree
minus_from e = tree.Minus e

-- ("+" | "-") term
abbrev pub NextTermOf : List Text → Lang ExpressionTree → Lang ExpressionTree
NextTermOf names IsExpression = Either (After Plus (TermOf names IsExpression)) (Mapped minus_from (After Minus (TermOf names IsExpression)))

-- a term alone is itself
abbrev pub sum_from : List ExpressionTree → ExpressionTree
sum_from (e ∷ []) = e
sum_from es = Sum (expressions_of es)

abbrev pub list_from : ExpressionTree × List ExpressionTree → List ExpressionTree
list_from x = x.0 ∷ x.1

-- expr = term {("+" | "-") term}
abbrev pub ExpressionOf : List Text → Lang ExpressionTree → Lang ExpressionTree
ExpressionOf names IsExpression = Mapped sum_from (Mapped list_from (Then (TermOf names IsExpression) (Many (NextTermOf names IsExpression))))

-- NUMBER | NAME
abbrev pub IsPlainAtom : List Text → Lang ExpressionTree
IsPlainAtom names = Either (Mapped Num AnyNumber) (Mapped tree.Name (AnyWord names))

-- an expression with parentheses at most so deep in one another; the innermost are numbers and names
abbrev pub ExpressionTo : List Text → ℕ → Lang ExpressionTree
ExpressionTo names zero = IsPlainAtom names
ExpressionTo names (suc depth) = ExpressionOf names (ExpressionTo names depth)

abbrev pub IsExpression : List Text → Lang ExpressionTree
IsExpression names ts expression rest = (depth : ℕ) × ExpressionTo names depth ts expression rest

abbrev pub IsAtom : List Text → Lang ExpressionTree
IsAtom names = AtomOf names (IsExpression names)

-- expr {"," expr}
abbrev pub AreExpressions : List Text → Lang (List ExpressionTree)
AreExpressions names = Separated Comma (IsExpression names)

-- ---- names, times and values

abbrev pub name_from : Text × Option ExpressionTree → NameTree
name_from x = record { name = x.0; index = x.1 }

-- NAME ["#" atom]
abbrev pub IsName : List Text → Lang NameTree
IsName names = Mapped name_from (Then (AnyWord names) (Optional (After Hash (IsAtom names))))

abbrev pub time_from : Text × ExpressionTree → TimeTree
time_from x = record { event = x.0; plus = x.1 }

-- time = NAME ["+" expr]
abbrev pub IsTime : List Text → Lang TimeTree
IsTime names = Mapped time_from (Then (AnyWord names) (Either (After Plus (IsExpression names)) (Empty (Num 0))))

abbrev pub output_from : NameTree × NameTree → ValueTree
output_from x = OutputValue x.0 x.1

abbrev pub literal_from : ℕ × ℕ → ValueTree
literal_from x = Literal x.0 x.1

abbrev pub made_literal_from : ExpressionTree × ExpressionTree → ValueTree
made_literal_from x = MadeLiteral x.0 x.1

-- "lit" "(" expr "," expr ")"
abbrev pub IsMadeLiteral : List Text → Lang ValueTree
IsMadeLiteral names =
    Mapped made_literal_from (After Lit (Between LeftParen (Then (Closed (IsExpression names) Comma) (IsExpression names)) RightParen))

-- value = NAME ["#" atom] | NAME ["#" atom] "." NAME ["#" atom] | LITERAL | "lit" "(" expr "," expr ")"
abbrev pub IsValue : List Text → Lang ValueTree
IsValue names =
    Either (Mapped InputValue (IsName names))
    (Either (Mapped output_from (Then (IsName names) (After Dot (IsName names))))
    (Either (Mapped literal_from AnyLiteral)
    (IsMadeLiteral names)))

-- ---- statements

abbrev pub giving_from : List TimeTree × List ValueTree → GivingTree
giving_from x = record { times = x.0; args = x.1 }

-- call = "<" time {"," time} ">" "(" [value {"," value} [","]] ")"
abbrev pub IsCall : List Text → Lang GivingTree
IsCall names =
    Mapped giving_from (Then (Between LeftAngle (Separated Comma (IsTime names)) RightAngle) (Between LeftParen (Listed Comma (IsValue names)) RightParen))

-- ["[" expr {"," expr} "]"]
abbrev pub AreGivenParameters : List Text → Lang (List ExpressionTree)
AreGivenParameters names = Either (Between LeftBracket (AreExpressions names) RightBracket) (Empty [])

-- an instance, and its invocation where there is one
abbrev pub made : NameTree → Text → List ExpressionTree → Option GivingTree → StatementTree
made name comp params None = tree.New name comp params
made name comp params (Some gives) = Both name comp params gives

abbrev pub new_from : NameTree × (Text × (List ExpressionTree × Option GivingTree)) → StatementTree
new_from x = made x.0 x.1.0 x.1.1.0 x.1.1.1

abbrev pub call_from : NameTree × (NameTree × GivingTree) → StatementTree
call_from x = Call x.0 x.1.0 x.1.1

abbrev pub connect_from : NameTree × ValueTree → StatementTree
connect_from x = Connect x.0 x.1

-- NAME ["#" atom] ":=" "new" NAME ["[" expr {"," expr} "]"] [call] ";"
-- | NAME ["#" atom] ":=" NAME ["#" atom] call ";"
-- | NAME ["#" atom] "=" value ";"
abbrev pub IsPlainStatement : List Text → Lang StatementTree
IsPlainStatement names =
    Either (Mapped new_from (Then (IsName names)
    (After ColonEquals (After New (Then (AnyWord names) (Closed (Then (AreGivenParameters names) (Optional (IsCall names))) Semicolon))))))
    (Either (Mapped call_from (Then (IsName names) (After ColonEquals (Then (IsName names) (Closed (IsCall names) Semicolon)))))
    (Mapped connect_from (Then (IsName names) (After Equals (Closed (IsValue names) Semicolon)))))

-- "{" {stmt} "}"
abbrev pub BlockOf : Lang StatementTree → Lang (List StatementTree)
BlockOf IsStatement = Between LeftBrace (Many IsStatement) RightBrace

-- NAME "in" expr ".." expr
abbrev pub IsRange : List Text → Lang (Text × (ExpressionTree × ExpressionTree))
IsRange names = Then (AnyWord names) (After In (Then (Closed (IsExpression names) DotDot) (IsExpression names)))

abbrev pub for_from : (Text × (ExpressionTree × ExpressionTree)) × List StatementTree → StatementTree
for_from x = tree.For x.0.0 x.0.1.0 x.0.1.1 (statements_of x.1)

-- "for" NAME "in" expr ".." expr "{" {stmt} "}"
abbrev pub ForOf : List Text → Lang StatementTree → Lang StatementTree
ForOf names IsStatement = Mapped for_from (After For (Then (IsRange names) (BlockOf IsStatement)))

-- "==" | "<"; whether it is the second
abbrev pub IsComparison : Lang Bool
IsComparison = Either (Mapped (λ _. false) (One EqualsEquals)) (Mapped (λ _. true) (One LeftAngle))

-- expr ("==" | "<") expr
abbrev pub IsCondition : List Text → Lang (ExpressionTree × (Bool × ExpressionTree))
IsCondition names = Then (IsExpression names) (Then IsComparison (IsExpression names))

-- ["else" "{" {stmt} "}"]
abbrev pub MaybeElse : Lang StatementTree → Lang (List StatementTree)
MaybeElse IsStatement = Either (After Else (BlockOf IsStatement)) (Empty [])

abbrev pub if_from : (ExpressionTree × (Bool × ExpressionTree)) × (List StatementTree × List StatementTree) → StatementTree
if_from x = tree.If x.0.1.0 x.0.0 x.0.1.1 (statements_of x.1.0) (statements_of x.1.1)

-- "if" expr ("==" | "<") expr "{" {stmt} "}" ["else" "{" {stmt} "}"]
abbrev pub IfOf : List Text → Lang StatementTree → Lang StatementTree
IfOf names IsStatement = Mapped if_from (After If (Then (IsCondition names) (Then (BlockOf IsStatement) (MaybeElse IsStatement))))

-- stmt = NAME ["#" atom] ":=" "new" NAME ["[" expr {"," expr} "]"] [call] ";"
--      | NAME ["#" atom] ":=" NAME ["#" atom] call ";"
--      | NAME ["#" atom] "=" value ";"
--      | "for" NAME "in" expr ".." expr "{" {stmt} "}"
--      | "if" expr ("==" | "<") expr "{" {stmt} "}" ["else" "{" {stmt} "}"]
abbrev pub StatementOf : List Text → Lang StatementTree → Lang StatementTree
StatementOf names IsStatement = Either (IsPlainStatement names) (Either (ForOf names IsStatement) (IfOf names IsStatement))

-- a statement with blocks at most so deep in one another; the innermost have none
abbrev pub StatementTo : List Text → ℕ → Lang StatementTree
StatementTo names zero = IsPlainStatement names
StatementTo names (suc depth) = StatementOf names (StatementTo names depth)

abbrev pub IsStatement : List Text → Lang StatementTree
IsStatement names ts statement rest = (depth : ℕ) × StatementTo names depth ts statement rest

-- ---- signatures

abbrev pub port_from : TimeTree × (TimeTree × (NameTree × ExpressionTree)) → PortTree
port_from x = record { from = x.0; to = x.1.0; name = x.1.1.0; width = x.1.1.1 }

-- "[" time "," time "]" NAME ["#" atom] ":" expr
abbrev pub IsPlacedPort : List Text → Lang PortTree
IsPlacedPort names =
    Mapped port_from (After LeftBracket (Then (Closed (IsTime names) Comma)
    (Then (Closed (IsTime names) RightBracket) (Then (Closed (IsName names) Colon) (IsExpression names)))))

-- port = "@" "[" time "," time "]" NAME ["#" atom] ":" expr
abbrev pub IsPort : List Text → Lang PortTree
IsPort names = After At (IsPlacedPort names)

abbrev pub interface_from : Text × (NameTree × ExpressionTree) → InterfaceTree
interface_from x = record { event = x.0; name = x.1.0; width = x.1.1 }

-- "[" NAME "]" NAME ["#" atom] ":" expr
abbrev pub IsNamedInterface : List Text → Lang InterfaceTree
IsNamedInterface names =
    Mapped interface_from (Then (Between LeftBracket (AnyWord names) RightBracket) (Then (Closed (IsName names) Colon) (IsExpression names)))

-- what stands in the list of inputs
pub data InputTree : Type 0 where
  InterfacePort : InterfaceTree → InputTree
  DataInput : PortTree → InputTree

-- iport = "@" "interface" "[" NAME "]" NAME ["#" atom] ":" expr | port
abbrev pub IsInput : List Text → Lang InputTree
IsInput names = Either (Mapped InterfacePort (After At (After Interface (IsNamedInterface names)))) (Mapped DataInput (IsPort names))

abbrev pub event_from : Text × ExpressionTree → EventTree
event_from x = record { name = x.0; delay = x.1 }

-- NAME ":" expr
abbrev pub IsEvent : List Text → Lang EventTree
IsEvent names = Mapped event_from (Then (Closed (AnyWord names) Colon) (IsExpression names))

-- interface ports and data inputs are two lists of the tree
abbrev pub interfaces_of : List InputTree → List InterfaceTree
interfaces_of [] = []
interfaces_of (InterfacePort port ∷ inputs) = port ∷ interfaces_of inputs
interfaces_of (DataInput port ∷ inputs) = interfaces_of inputs

abbrev pub data_of : List InputTree → List PortTree
data_of [] = []
data_of (InterfacePort port ∷ inputs) = data_of inputs
data_of (DataInput port ∷ inputs) = port ∷ data_of inputs

abbrev pub inputs_from : List InputTree → List InterfaceTree × List PortTree
inputs_from inputs = (interfaces_of inputs, data_of inputs)

-- ["[" NAME {"," NAME} "]"]
abbrev pub AreParameters : List Text → Lang (List Text)
AreParameters names = Either (Between LeftBracket (Separated Comma (AnyWord names)) RightBracket) (Empty [])

-- "<" NAME ":" expr {"," NAME ":" expr} ">"
abbrev pub AreEvents : List Text → Lang (List EventTree)
AreEvents names = Between LeftAngle (Separated Comma (IsEvent names)) RightAngle

-- "(" [iport {"," iport} [","]] ")"
abbrev pub AreInputs : List Text → Lang (List InterfaceTree × List PortTree)
AreInputs names = Mapped inputs_from (Between LeftParen (Listed Comma (IsInput names)) RightParen)

-- "(" [port {"," port} [","]] ")"
abbrev pub AreOutputs : List Text → Lang (List PortTree)
AreOutputs names = Between LeftParen (Listed Comma (IsPort names)) RightParen

-- ---- components and files

abbrev pub Ports : Type 0
Ports = (List InterfaceTree × List PortTree) × List PortTree

-- "(" [iport {"," iport} [","]] ")" "->" "(" [port {"," port} [","]] ")"
abbrev pub ArePorts : List Text → Lang Ports
ArePorts names = Then (AreInputs names) (After Arrow (AreOutputs names))

abbrev pub component_from : Text × (List Text × (List EventTree × (Ports × List StatementTree))) → ComponentTree
component_from x =
    record {
      name = x.0;
      params = x.1.0;
      events = x.1.1.0;
      interfaces = x.1.1.1.0.0.0;
      ins = x.1.1.1.0.0.1;
      outs = x.1.1.1.0.1;
      body = x.1.1.1.1;
    }

-- comp = "comp" NAME ["[" NAME {"," NAME} "]"] "<" NAME ":" expr {"," NAME ":" expr} ">"
--        "(" [iport {"," iport} [","]] ")" "->" "(" [port {"," port} [","]] ")" "{" {stmt} "}"
abbrev pub IsComponent : List Text → Lang ComponentTree
IsComponent names =
    Mapped component_from (After Comp (Then (AnyWord names)
    (Then (AreParameters names) (Then (AreEvents names) (Then (ArePorts names) (BlockOf (IsStatement names)))))))

-- "import" STRING ";"
abbrev pub IsImport : Lang (Unit {0})
IsImport = After Import (Closed (Mapped (λ _. tt) (One sorts.Text)) Semicolon)

-- {"import" STRING ";"}; a tree has no trace of it
abbrev pub AreImports : Lang (Unit {0})
AreImports = Mapped (λ _. tt) (Many IsImport)

abbrev pub design_from : Unit {0} × (ComponentTree × List ComponentTree) → DesignTree
design_from x = x.1.0 ∷ x.1.1

-- file = {"import" STRING ";"} comp {comp}
abbrev pub IsFile : List Text → Lang DesignTree
IsFile names = Mapped design_from (Then AreImports (Then (IsComponent names) (Many (IsComponent names))))
