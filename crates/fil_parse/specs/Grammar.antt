-- The grammar of Filament. Filament, PLDI 2023, in this project's profile. Each rule stands in the comment before it, as it is written with
-- `{ }` for any number and `[ ]` for what may be missing. `names` are the names that the numbers of terminals stand for.
use Rattle.std.specs.Prelude.{ℕ, List, [], ◌∷◌, Option, Some, None}
use Rattle.hw_names.specs.Name.{Text}
use Rattle.hw_grammar.specs.declared.sort.Sort.TheVariants.{Comp, New, Interface, Import, At, LeftBracket, RightBracket, LeftParen, RightParen, LeftAngle}
use Rattle.hw_grammar.specs.declared.sort.Sort.TheVariants.{RightAngle, LeftBrace, RightBrace, Comma, Colon, ColonEquals, Semicolon, Equals, Plus, Dot, Arrow}
use Rattle.hw_grammar.specs.declared.sort.Sort.TheVariants as sorts
use Rattle.hw_grammar.specs.Grammar.{Lang, One, Empty, Mapped, AnyWord, AnyNumber, AnyLiteral, Then, Either, Optional, After, Closed, Between, Many, Separated}
use Rattle.hw_grammar.specs.Grammar.{Listed}
use Rattle.fil_ast.specs.Tree.{TimeAt, Event, DataPort, ValueTree, InputValue, OutputValue, Giving, Statement, Call, Both, Connect, Component, Design}
use Rattle.fil_ast.specs.Tree as tree

abbrev pub time_from : Text × ℕ → TimeAt
time_from x = record { event = x.0; plus = x.1 }

-- time = NAME ["+" NUMBER]
abbrev pub IsTime : List Text → Lang TimeAt
IsTime names = Mapped time_from (Then (AnyWord names) (Either (After Plus AnyNumber) (Empty 0)))

abbrev pub output_from : Text × Text → ValueTree
output_from x = OutputValue x.0 x.1

abbrev pub literal_from : ℕ × ℕ → ValueTree
literal_from x = tree.Literal x.0 x.1

-- value = NAME | NAME "." NAME | LITERAL
abbrev pub IsValue : List Text → Lang ValueTree
IsValue names =
    Either (Mapped InputValue (AnyWord names))
    (Either (Mapped output_from (Then (AnyWord names) (After Dot (AnyWord names))))
    (Mapped literal_from AnyLiteral))

abbrev pub giving_from : List TimeAt × List ValueTree → Giving
giving_from x = record { times = x.0; args = x.1 }

-- call = "<" time {"," time} ">" "(" [value {"," value} [","]] ")"
abbrev pub IsCall : List Text → Lang Giving
IsCall names =
    Mapped giving_from (Then (Between LeftAngle (Separated Comma (IsTime names)) RightAngle) (Between LeftParen (Listed Comma (IsValue names)) RightParen))

-- "[" NUMBER {"," NUMBER} "]"
abbrev pub AreParameters : Lang (List ℕ)
AreParameters = Between LeftBracket (Separated Comma AnyNumber) RightBracket

-- an instance, and its invocation where there is one
abbrev pub made : Text → Text → List ℕ → Option Giving → Statement
made name comp params None = tree.New name comp params
made name comp params (Some gives) = Both name comp params gives

abbrev pub new_from : Text × (Text × (List ℕ × Option Giving)) → Statement
new_from x = made x.0 x.1.0 x.1.1.0 x.1.1.1

abbrev pub call_from : Text × (Text × Giving) → Statement
call_from x = Call x.0 x.1.0 x.1.1

abbrev pub connect_from : Text × ValueTree → Statement
connect_from x = Connect x.0 x.1

-- stmt = NAME ":=" "new" NAME ["[" NUMBER {"," NUMBER} "]"] [call] ";"
--      | NAME ":=" NAME call ";"
--      | NAME "=" value ";"
abbrev pub IsStatement : List Text → Lang Statement
IsStatement names =
    Either (Mapped new_from (Then (AnyWord names)
    (After ColonEquals (After New (Then (AnyWord names) (Closed (Then (Either AreParameters (Empty [])) (Optional (IsCall names))) Semicolon))))))
    (Either (Mapped call_from (Then (AnyWord names) (After ColonEquals (Then (AnyWord names) (Closed (IsCall names) Semicolon)))))
    (Mapped connect_from (Then (AnyWord names) (After Equals (Closed (IsValue names) Semicolon)))))

abbrev pub port_from : TimeAt × (TimeAt × (Text × ℕ)) → DataPort
port_from x = record { from = x.0; to = x.1.0; name = x.1.1.0; width = x.1.1.1 }

-- "[" time "," time "]" NAME ":" NUMBER
abbrev pub IsPlacedPort : List Text → Lang DataPort
IsPlacedPort names =
    Mapped port_from (After LeftBracket (Then (Closed (IsTime names) Comma)
    (Then (Closed (IsTime names) RightBracket) (Then (Closed (AnyWord names) Colon) AnyNumber))))

-- port = "@" "[" time "," time "]" NAME ":" NUMBER
abbrev pub IsPort : List Text → Lang DataPort
IsPort names = After At (IsPlacedPort names)

abbrev pub interface_from : Text × (Text × ℕ) → tree.Interface
interface_from x = record { event = x.0; name = x.1.0; width = x.1.1 }

-- "[" NAME "]" NAME ":" NUMBER
abbrev pub IsNamedInterface : List Text → Lang tree.Interface
IsNamedInterface names = Mapped interface_from (Then (Between LeftBracket (AnyWord names) RightBracket) (Then (Closed (AnyWord names) Colon) AnyNumber))

-- what stands in the list of inputs
pub data Input : Type 0 where
  InterfacePort : tree.Interface → Input
  DataInput : DataPort → Input

-- iport = "@" "interface" "[" NAME "]" NAME ":" NUMBER | port
abbrev pub IsInput : List Text → Lang Input
IsInput names = Either (Mapped InterfacePort (After At (After Interface (IsNamedInterface names)))) (Mapped DataInput (IsPort names))

abbrev pub event_from : Text × ℕ → Event
event_from x = record { name = x.0; delay = x.1 }

-- NAME ":" NUMBER
abbrev pub IsEvent : List Text → Lang Event
IsEvent names = Mapped event_from (Then (Closed (AnyWord names) Colon) AnyNumber)

-- interface ports and data inputs are two lists of the tree
abbrev pub interfaces_of : List Input → List tree.Interface
interfaces_of [] = []
interfaces_of (InterfacePort port ∷ inputs) = port ∷ interfaces_of inputs
interfaces_of (DataInput port ∷ inputs) = interfaces_of inputs

abbrev pub data_of : List Input → List DataPort
data_of [] = []
data_of (InterfacePort port ∷ inputs) = data_of inputs
data_of (DataInput port ∷ inputs) = port ∷ data_of inputs

abbrev pub component_from : Text × (List Event × (List Input × (List DataPort × List Statement))) → Component
component_from x =
    record { name = x.0; events = x.1.0; interfaces = interfaces_of x.1.1.0; ins = data_of x.1.1.0; outs = x.1.1.1.0; body = x.1.1.1.1 }

-- "<" NAME ":" NUMBER {"," NAME ":" NUMBER} ">"
abbrev pub AreEvents : List Text → Lang (List Event)
AreEvents names = Between LeftAngle (Separated Comma (IsEvent names)) RightAngle

-- "(" [iport {"," iport} [","]] ")"
abbrev pub AreInputs : List Text → Lang (List Input)
AreInputs names = Between LeftParen (Listed Comma (IsInput names)) RightParen

-- "(" [port {"," port} [","]] ")"
abbrev pub AreOutputs : List Text → Lang (List DataPort)
AreOutputs names = Between LeftParen (Listed Comma (IsPort names)) RightParen

-- "{" {stmt} "}"
abbrev pub IsBody : List Text → Lang (List Statement)
IsBody names = Between LeftBrace (Many (IsStatement names)) RightBrace

-- comp = "comp" NAME "<" NAME ":" NUMBER {"," NAME ":" NUMBER} ">" "(" [iport {"," iport} [","]] ")"
--        "->" "(" [port {"," port} [","]] ")" "{" {stmt} "}"
abbrev pub IsComponent : List Text → Lang Component
IsComponent names =
    Mapped component_from (After Comp (Then (AnyWord names)
    (Then (AreEvents names) (Then (AreInputs names) (Then (After Arrow (AreOutputs names)) (IsBody names))))))

-- "import" STRING ";"
abbrev pub IsImport : Lang (Unit {0})
IsImport = After Import (Closed (Mapped (λ _. tt) (One sorts.Text)) Semicolon)

-- {"import" STRING ";"}; a tree has no trace of it
abbrev pub AreImports : Lang (Unit {0})
AreImports = Mapped (λ _. tt) (Many IsImport)

abbrev pub design_from : Unit {0} × (Component × List Component) → Design
design_from x = x.1.0 ∷ x.1.1

-- file = {"import" STRING ";"} comp {comp}
abbrev pub IsFile : List Text → Lang Design
IsFile names = Mapped design_from (Then AreImports (Then (IsComponent names) (Many (IsComponent names))))
