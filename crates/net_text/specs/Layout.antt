-- The text of a netlist: one spelling for each. This project's.
use Rattle.std.specs.Prelude.{ℕ, List, [], ◌∷◌, ◌++◌, if◌then◌else◌, flat_map, codes, decimal, Option, None, Some}
use Rattle.hw_names.specs.Name.{Text}
use Rattle.hw_prims.specs.Table.{Pin}
use Rattle.net_core.specs.Guard.{GuardTree, GuardTrees, Reads, Compares, Negates, AllOf, AnyOf, NoGuards, MoreGuards}
use Rattle.net_core.specs.Netlist.{Netlist, Line, InLine, OutLine, WireLine, CellOf, SetOf, lines_of}
use Rattle.net_core.specs.declared.net.Cmp.{Cmp}
use Rattle.net_core.specs.declared.net.Cmp.TheVariants.{Eq, Neq, Lt, Gt, Le, Ge}
use Rattle.net_core.specs.declared.net.Src.{Src}
use Rattle.net_core.specs.declared.net.Src.TheVariants.{Port, Lit}

-- a port's name, or W'dV
abbrev pub source_text : Src Text → Text
source_text (Port p) = p
source_text (Lit width value) = decimal width ++ codes "'d" ++ decimal value

abbrev pub operator_text : Cmp → Text
operator_text Eq = codes "=="
operator_text Neq = codes "!="
operator_text Lt = codes "<"
operator_text Gt = codes ">"
operator_text Le = codes "<="
operator_text Ge = codes ">="

-- S, !G, (S op S), (G & G) or (G | G), with a space round each operator
abbrev mutual
  pub guard_text : GuardTree Text → Text
  guard_text (Reads s) = source_text s
  guard_text (Compares op a b) = codes "(" ++ source_text a ++ codes " " ++ operator_text op ++ codes " " ++ source_text b ++ codes ")"
  guard_text (Negates g) = codes "!" ++ guard_text g
  guard_text (AllOf gs) = codes "(" ++ guards_text (codes " & ") gs ++ codes ")"
  guard_text (AnyOf gs) = codes "(" ++ guards_text (codes " | ") gs ++ codes ")"

  pub guards_text : Text → GuardTrees Text → Text
  guards_text between NoGuards = []
  guards_text between (MoreGuards g gs) = guard_text g ++ rest_text between gs

  pub rest_text : Text → GuardTrees Text → Text
  rest_text between NoGuards = []
  rest_text between (MoreGuards g gs) = between ++ guard_text g ++ rest_text between gs

-- a guard, ` ? `, and nothing where there is no guard
abbrev pub when_text : Option (GuardTree Text) → Text
when_text None = []
when_text (Some g) = guard_text g ++ codes " ? "

abbrev pub pin_text : Pin → Text
pin_text p = p.name ++ codes " " ++ decimal p.width

abbrev pub parameters_text : List ℕ → Text
parameters_text params = flat_map (λ p. codes " " ++ decimal p) params

-- a line, without the line feed that ends it
abbrev pub line_text : Line → Text
line_text (InLine p) = codes "in " ++ pin_text p
line_text (OutLine p) = codes "out " ++ pin_text p
line_text (WireLine p) = codes "wire " ++ pin_text p
line_text (CellOf c) = (if c.shown then codes "ext " else codes "cell ") ++ c.name ++ codes " " ++ c.prim ++ parameters_text c.params
line_text (SetOf a) = codes "set " ++ a.dst ++ codes " = " ++ when_text a.guard ++ source_text a.src

-- a line with its line feed
abbrev pub ended : Text → Text
ended line = line ++ 10 ∷ []

abbrev pub net_text : Netlist → Text
net_text n = ended (codes "net " ++ n.name) ++ flat_map (λ line. ended (line_text line)) (lines_of n) ++ ended (codes "end")
