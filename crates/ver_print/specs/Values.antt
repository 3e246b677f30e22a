-- What drives a port, as a Verilog expression. This project's.
use Rattle.std.specs.Prelude.{ℕ, List, [], ◌∷◌, ◌++◌, bytes_eq, codes, filter, Option, None, Some}
use Rattle.std.specs.List.{flat_map}
use Rattle.hw_names.specs.Name.{Text}
use Rattle.net_core.specs.Guard.{GuardTree, GuardTrees, Reads, Compares, Negates, AllOf, AnyOf, NoGuards, MoreGuards}
use Rattle.net_core.specs.Netlist.{Netlist, SetLine}
use Rattle.net_core.specs.Rules.{PortLine, ports_of}
use Rattle.net_core.specs.declared.net.Cmp.{Cmp}
use Rattle.net_core.specs.declared.net.Cmp.TheVariants.{Eq, Neq, Lt, Gt, Le, Ge}
use Rattle.net_core.specs.declared.net.Src.{Src}
use Rattle.net_core.specs.declared.net.Src.TheVariants.{Port, Lit}
use Rattle.ver_print.specs.Words.{assignment, escaped, inner_line, literal, zeros}

abbrev pub source_text : Src Text → Text
source_text (Port p) = escaped p
source_text (Lit width value) = literal width value

abbrev pub operator_text : Cmp → Text
operator_text Eq = codes "=="
operator_text Neq = codes "!="
operator_text Lt = codes "<"
operator_text Gt = codes ">"
operator_text Le = codes "<="
operator_text Ge = codes ">="

-- a name has a space of its own, a literal has none
abbrev pub source_gap : Src Text → Text
source_gap (Port p) = []
source_gap (Lit width value) = codes " "

abbrev pub guard_gap : GuardTree Text → Text
guard_gap (Reads s) = source_gap s
guard_gap g = codes " "

-- S, (S op S), (!G), (G && G) or (G || G)
abbrev mutual
  pub guard_text : GuardTree Text → Text
  guard_text (Reads s) = source_text s
  guard_text (Compares op a b) = codes "(" ++ source_text a ++ source_gap a ++ operator_text op ++ codes " " ++ source_text b ++ codes ")"
  guard_text (Negates g) = codes "(!" ++ guard_text g ++ codes ")"
  guard_text (AllOf gs) = codes "(" ++ guards_text (codes "&& ") gs ++ codes ")"
  guard_text (AnyOf gs) = codes "(" ++ guards_text (codes "|| ") gs ++ codes ")"

  pub guards_text : Text → GuardTrees Text → Text
  guards_text mark NoGuards = []
  guards_text mark (MoreGuards g gs) = guard_text g ++ rest_text mark g gs

  -- the guards after this one
  pub rest_text : Text → GuardTree Text → GuardTrees Text → Text
  rest_text mark before NoGuards = []
  rest_text mark before (MoreGuards g gs) = guard_gap before ++ mark ++ guard_text g ++ rest_text mark g gs

-- (G) ? S : and what others give; S alone where there is no guard
abbrev pub guarded_text : Option (GuardTree Text) → Src Text → Text → Text
guarded_text None source others = source_text source
guarded_text (Some g) source others = codes "(" ++ guard_text g ++ codes ") ? " ++ source_text source ++ source_gap source ++ codes ": " ++ others

-- the value of a port of this width that these assignments drive, in their order: that of the first whose guard is true, else 0
abbrev pub value_text : ℕ → List SetLine → Text
value_text width [] = zeros width
value_text width (a ∷ sets) = guarded_text a.guard a.src (value_text width sets)

-- the assignments of a port, in their order
abbrev pub sets_to : Text → List SetLine → List SetLine
sets_to port sets = filter (λ (a : SetLine). bytes_eq a.dst port) sets

abbrev pub drive_line : List SetLine → PortLine → Text
drive_line sets p = inner_line (assignment (escaped p.name) (value_text p.width (sets_to p.name sets)))

-- a line for each writable port, in their order
abbrev pub drives_text : Netlist → Text
drives_text n = flat_map (drive_line n.sets) (filter (λ (p : PortLine). p.writable) (ports_of n))
