-- Which netlists have a text: names of the netlist grammar, numbers of at most 128 bits, lists of two guards or more.
use Rattle.std.specs.Prelude.{◌≡◌, ℕ, ◌+◌, ◌^◌, Bool, true, false, ◌&&◌, ◌||◌, ◌==◌, nat_le, nat_lt, if◌then◌else◌, [], ◌∷◌, Option, None, Some}
use Rattle.std.specs.List.{list_all}
use Rattle.hw_names.specs.Name.{Text}
use Rattle.net_core.specs.Guard.{GuardTree, GuardTrees, Reads, Compares, Negates, AllOf, AnyOf, NoGuards, MoreGuards}
use Rattle.net_core.specs.Netlist.{Netlist, Line, InLine, OutLine, WireLine, CellOf, SetOf, lines_of}
use Rattle.net_core.specs.declared.net.Src.{Src}
use Rattle.net_core.specs.declared.net.Src.TheVariants.{Port, Lit}

-- a letter or `_`
abbrev pub begins_name : ℕ → Bool
begins_name c = (nat_le 65 c && nat_le c 90) || (nat_le 97 c && nat_le c 122) || c == 95

-- a letter, a digit, `_` or `$`
abbrev pub continues_name : ℕ → Bool
continues_name c = begins_name c || (nat_le 48 c && nat_le c 57) || c == 36

-- SEG: a letter or `_`, then letters, digits, `_`, `$`
abbrev pub is_segment : Text → Bool
is_segment [] = false
is_segment (c ∷ cs) = begins_name c && list_all continues_name cs

-- PATH: segments joined by dots; a dot (46) begins a new segment
abbrev mutual
  pub is_path : Text → Bool
  is_path [] = false
  is_path (c ∷ cs) = begins_name c && is_rest_of_path cs

  pub is_rest_of_path : Text → Bool
  is_rest_of_path [] = true
  is_rest_of_path (c ∷ cs) = if c == 46 then is_path cs else continues_name c && is_rest_of_path cs

-- a number that a text may have
abbrev pub is_number : ℕ → Bool
is_number n = nat_lt n (2 ^ 128)

abbrev pub source_has_text : Src Text → Bool
source_has_text (Port p) = is_path p
source_has_text (Lit width value) = is_number width && is_number value

abbrev pub count_guards : GuardTrees Text → ℕ
count_guards NoGuards = 0
count_guards (MoreGuards g gs) = count_guards gs + 1

abbrev mutual
  pub guard_has_text : GuardTree Text → Bool
  guard_has_text (Reads s) = source_has_text s
  guard_has_text (Compares op a b) = source_has_text a && source_has_text b
  guard_has_text (Negates g) = guard_has_text g
  guard_has_text (AllOf gs) = nat_le 2 (count_guards gs) && guards_have_text gs
  guard_has_text (AnyOf gs) = nat_le 2 (count_guards gs) && guards_have_text gs

  pub guards_have_text : GuardTrees Text → Bool
  guards_have_text NoGuards = true
  guards_have_text (MoreGuards g gs) = guard_has_text g && guards_have_text gs

abbrev pub when_has_text : Option (GuardTree Text) → Bool
when_has_text None = true
when_has_text (Some g) = guard_has_text g

-- the netlist's inputs and outputs have plain names, all else paths
abbrev pub line_has_text : Line → Bool
line_has_text (InLine p) = is_segment p.name && is_number p.width
line_has_text (OutLine p) = is_segment p.name && is_number p.width
line_has_text (WireLine p) = is_path p.name && is_number p.width
line_has_text (CellOf c) = is_path c.name && is_segment c.prim && list_all is_number c.params
line_has_text (SetOf a) = is_path a.dst && when_has_text a.guard && source_has_text a.src

abbrev pub HasText : Netlist → Type 0
HasText n = (is_segment n.name ≡ true) × (list_all line_has_text (lines_of n) ≡ true)
