-- The canonical text of a Filament design: two spaces before each statement, a line for each, interface ports first among the inputs, literals in
-- decimal digits, no `+0`, and no brackets where there are no parameters. This project's.
use Rattle.std.specs.Prelude.{ℕ, ◌==◌, if◌then◌else◌, List, [], ◌∷◌, ◌++◌, map, flat_map, codes, decimal}
use Rattle.hw_names.specs.Name.{Text}
use Rattle.fil_ast.specs.Tree.{TimeAt, Event, Interface, DataPort, ValueTree, InputValue, OutputValue, Literal, Giving, Statement, New, Call, Both, Connect}
use Rattle.fil_ast.specs.Tree.{Component, Design}
use Rattle.fil_parse.specs.Grammar.{Input, InterfacePort, DataInput}

-- the texts of items, with a comma and a space between each two
abbrev pub joined : {A : Type 0} → (A → Text) → List A → Text
joined text [] = []
joined text (x ∷ xs) = text x ++ flat_map (λ y. codes ", " ++ text y) xs

-- G+2, and G where nothing is added
abbrev pub time_text : TimeAt → Text
time_text t = t.event ++ (if t.plus == 0 then [] else codes "+" ++ decimal t.plus)

-- a, v.out or 8'd255
abbrev pub value_text : ValueTree → Text
value_text (InputValue name) = name
value_text (OutputValue invocation port) = invocation ++ codes "." ++ port
value_text (Literal width value) = decimal width ++ codes "'d" ++ decimal value

-- <G, G+3>(a, b)
abbrev pub call_text : Giving → Text
call_text gives = codes "<" ++ joined time_text gives.times ++ codes ">(" ++ joined value_text gives.args ++ codes ")"

-- [8, 4]
abbrev pub params_text : List ℕ → Text
params_text [] = []
params_text (param ∷ params) = codes "[" ++ joined decimal (param ∷ params) ++ codes "]"

abbrev pub statement_text : Statement → Text
statement_text (New name comp params) = name ++ codes " := new " ++ comp ++ params_text params
statement_text (Call name inst gives) = name ++ codes " := " ++ inst ++ call_text gives
statement_text (Both name comp params gives) = name ++ codes " := new " ++ comp ++ params_text params ++ call_text gives
statement_text (Connect output value) = output ++ codes " = " ++ value_text value

-- a statement on a line of its own, which follows a line
abbrev pub line_text : Statement → Text
line_text s = codes "\n  " ++ statement_text s ++ codes ";"

-- G: 6
abbrev pub event_text : Event → Text
event_text e = e.name ++ codes ": " ++ decimal e.delay

-- @interface[G] go: 1
abbrev pub interface_text : Interface → Text
interface_text g = codes "@interface[" ++ g.event ++ codes "] " ++ g.name ++ codes ": " ++ decimal g.width

-- @[G, G+1] a: 8
abbrev pub port_text : DataPort → Text
port_text p = codes "@[" ++ time_text p.from ++ codes ", " ++ time_text p.to ++ codes "] " ++ p.name ++ codes ": " ++ decimal p.width

abbrev pub input_text : Input → Text
input_text (InterfacePort port) = interface_text port
input_text (DataInput port) = port_text port

abbrev pub inputs_of : Component → List Input
inputs_of c = map InterfacePort c.interfaces ++ map DataInput c.ins

-- a component, without the line feed at its end
abbrev pub component_text : Component → Text
component_text c =
    codes "comp " ++ c.name ++ codes "<" ++ joined event_text c.events
    ++ codes ">(" ++ joined input_text (inputs_of c) ++ codes ") -> (" ++ joined port_text c.outs
    ++ codes ") {" ++ flat_map line_text c.body ++ codes "\n}"

abbrev pub fil_text : Design → Text
fil_text design = flat_map (λ c. component_text c ++ codes "\n") design
