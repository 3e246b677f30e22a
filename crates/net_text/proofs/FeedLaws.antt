-- No line has a line feed in it, and none is the last one's.
use Rattle.std.proofs.Common.{◌≡◌, ℕ, ◌&&◌, Bool, true, false, cond, List, [], ◌∷◌, ◌++◌, codes, Option, Some, None, refl, sym, ap, ◌∙◌, leb}
use Rattle.std.specs.Fmt.{decimal}
use Rattle.std.specs.List.{list_all}
use Rattle.hw_names.specs.Name.{Text}
use Rattle.hw_prims.specs.Table.{Pin}
use Rattle.net_core.specs.Guard.{GuardTree, GuardTrees, Reads, Compares, Negates, AllOf, AnyOf, NoGuards, MoreGuards}
use Rattle.net_core.specs.declared.net.Cmp.{Cmp}
use Rattle.net_core.specs.declared.net.Cmp.TheVariants.{Eq, Neq, Lt, Gt, Le, Ge}
use Rattle.net_core.specs.Netlist.{Line, InLine, OutLine, WireLine, CellOf, SetOf}
use Rattle.net_core.specs.declared.net.Src.{Src}
use Rattle.net_core.specs.declared.net.Src.TheVariants.{Port, Lit}
use Rattle.net_text.specs.Layout.{source_text, operator_text, guard_text, guards_text, rest_text, when_text, pin_text, parameters_text, line_text}
use Rattle.net_text.specs.Names.{is_segment, is_path, is_number, source_has_text, count_guards, guard_has_text, guards_have_text, when_has_text, line_has_text}
use Rattle.net_text.specs.inside.ReadWords.{is_word_byte}
use Rattle.net_text.specs.inside.ReadTexts.{in_line}
use Rattle.net_text.specs.inside.ReadLines.{line_of_text}
use Rattle.net_text.proofs.WordLemmas.{is_feed}
use Rattle.net_text.proofs.NumberLaws.{both_true}
use Rattle.net_text.proofs.WordLaws.{all_imply, segment_word, path_word, decimal_word}
use Rattle.net_text.proofs.LineLaws.{line_again}

pub all_append : (p : ℕ → Bool) (xs ys : Text) → list_all p xs ≡ true → list_all p ys ≡ true → list_all p (xs ++ ys) ≡ true
all_append p [] ys h k = k
all_append p (x ∷ xs) ys h k = let b = both_true (p x) (list_all p xs) h in rw b.0 (all_append p xs ys b.1 k)

in_line_from : (b : Bool) (c : ℕ) → in_line c ≡ b → is_word_byte c ≡ true → in_line c ≡ true
in_line_from true c e h = e
in_line_from false c e h = let no : is_word_byte 10 ≡ true = ap is_word_byte (sym (is_feed c e)) ∙ h in absurd cc

word_in_line : (w : Text) → list_all is_word_byte w ≡ true → list_all in_line w ≡ true
word_in_line w h = all_imply is_word_byte in_line (λ c e. in_line_from (in_line c) c refl e) w h

path_in_line : (w : Text) → is_path w ≡ true → list_all in_line w ≡ true
path_in_line w h = word_in_line w (path_word w h)

pub segment_in_line : (w : Text) → is_segment w ≡ true → list_all in_line w ≡ true
segment_in_line w h = word_in_line w (segment_word w h)

decimal_in_line : (n : ℕ) → is_number n ≡ true → list_all in_line (decimal n) ≡ true
decimal_in_line n h = word_in_line (decimal n) (decimal_word n h)

source_in_line : (s : Src Text) → source_has_text s ≡ true → list_all in_line (source_text s) ≡ true
source_in_line (Port p) h = path_in_line p h
source_in_line (Lit width value) h =
    let b = both_true (is_number width) (is_number value) h in
    all_append in_line (decimal width ++ codes "'d") (decimal value) (all_append in_line (decimal width) (codes "'d") (decimal_in_line width b.0) refl) (decimal_in_line value b.1)

pin_in_line : (p : Pin) → list_all in_line p.name ≡ true → is_number p.width ≡ true → list_all in_line (pin_text p) ≡ true
pin_in_line p h fits = all_append in_line (p.name ++ codes " ") (decimal p.width) (all_append in_line p.name (codes " ") h refl) (decimal_in_line p.width fits)

params_in_line : (params : List ℕ) → list_all is_number params ≡ true → list_all in_line (parameters_text params) ≡ true
params_in_line [] h = refl
params_in_line (p ∷ params) h =
    let b = both_true (is_number p) (list_all is_number params) h in
    all_append in_line (decimal p) (parameters_text params) (decimal_in_line p b.0) (params_in_line params b.1)

keyword_in_line : (shown : Bool) → list_all in_line (cond shown (codes "ext ") (codes "cell ")) ≡ true
keyword_in_line true = refl
keyword_in_line false = refl

operator_in_line : (op : Cmp) → list_all in_line (operator_text op) ≡ true
operator_in_line Eq = refl
operator_in_line Neq = refl
operator_in_line Lt = refl
operator_in_line Gt = refl
operator_in_line Le = refl
operator_in_line Ge = refl

compare_in_line : (op : Cmp) (a b : Src Text) → source_has_text a ≡ true → source_has_text b ≡ true → list_all in_line (guard_text (Compares op a b)) ≡ true
compare_in_line op a b h k =
    let left : Text = source_text a ++ codes " " in
    let mark : Text = left ++ operator_text op ++ codes " " in
    all_append in_line (mark ++ source_text b) (codes ")")
    (all_append in_line mark (source_text b)
    (all_append in_line (left ++ operator_text op) (codes " ") (all_append in_line left (operator_text op) (all_append in_line (source_text a) (codes " ") (source_in_line a h) refl) (operator_in_line op)) refl)
    (source_in_line b k))
    refl

mutual
  guard_in_line : (g : GuardTree Text) → guard_has_text g ≡ true → list_all in_line (guard_text g) ≡ true
  guard_in_line (Reads s) h = source_in_line s h
  guard_in_line (Compares op a b) h = let k = both_true (source_has_text a) (source_has_text b) h in compare_in_line op a b k.0 k.1
  guard_in_line (Negates g) h = guard_in_line g h
  guard_in_line (AllOf gs) h =
      let b = both_true (leb 2 (count_guards gs)) (guards_have_text gs) h in
      all_append in_line (guards_text (codes " & ") gs) (codes ")") (guards_in_line (codes " & ") gs refl b.1) refl
  guard_in_line (AnyOf gs) h =
      let b = both_true (leb 2 (count_guards gs)) (guards_have_text gs) h in
      all_append in_line (guards_text (codes " | ") gs) (codes ")") (guards_in_line (codes " | ") gs refl b.1) refl

  guards_in_line : (between : Text) (gs : GuardTrees Text) → list_all in_line between ≡ true → guards_have_text gs ≡ true → list_all in_line (guards_text between gs) ≡ true
  guards_in_line between NoGuards mark h = refl
  guards_in_line between (MoreGuards g gs) mark h =
      let b = both_true (guard_has_text g) (guards_have_text gs) h in
      all_append in_line (guard_text g) (rest_text between gs) (guard_in_line g b.0) (rest_in_line between gs mark b.1)

  rest_in_line : (between : Text) (gs : GuardTrees Text) → list_all in_line between ≡ true → guards_have_text gs ≡ true → list_all in_line (rest_text between gs) ≡ true
  rest_in_line between NoGuards mark h = refl
  rest_in_line between (MoreGuards g gs) mark h =
      let b = both_true (guard_has_text g) (guards_have_text gs) h in
      all_append in_line (between ++ guard_text g) (rest_text between gs) (all_append in_line between (guard_text g) mark (guard_in_line g b.0)) (rest_in_line between gs mark b.1)

when_in_line : (guard : Option (GuardTree Text)) → when_has_text guard ≡ true → list_all in_line (when_text guard) ≡ true
when_in_line None h = refl
when_in_line (Some g) h = all_append in_line (guard_text g) (codes " ? ") (guard_in_line g h) refl

pub line_in_line : (line : Line) → line_has_text line ≡ true → list_all in_line (line_text line) ≡ true
line_in_line (InLine p) h = let b = both_true (is_segment p.name) (is_number p.width) h in pin_in_line p (segment_in_line p.name b.0) b.1
line_in_line (OutLine p) h = let b = both_true (is_segment p.name) (is_number p.width) h in pin_in_line p (segment_in_line p.name b.0) b.1
line_in_line (WireLine p) h = let b = both_true (is_path p.name) (is_number p.width) h in pin_in_line p (path_in_line p.name b.0) b.1
line_in_line (CellOf c) h =
    let a = both_true (is_path c.name && is_segment c.prim) (list_all is_number c.params) h in
    let b = both_true (is_path c.name) (is_segment c.prim) a.0 in
    let keyword = cond c.shown (codes "ext ") (codes "cell ") in
    all_append in_line (((keyword ++ c.name) ++ codes " ") ++ c.prim) (parameters_text c.params)
    (all_append in_line ((keyword ++ c.name) ++ codes " ") c.prim
    (all_append in_line (keyword ++ c.name) (codes " ") (all_append in_line keyword c.name (keyword_in_line c.shown) (path_in_line c.name b.0)) refl)
    (segment_in_line c.prim b.1))
    (params_in_line c.params a.1)
line_in_line (SetOf a) h =
    let b = both_true (is_path a.dst && when_has_text a.guard) (source_has_text a.src) h in
    let d = both_true (is_path a.dst) (when_has_text a.guard) b.0 in
    all_append in_line (((codes "set " ++ a.dst) ++ codes " = ") ++ when_text a.guard) (source_text a.src)
    (all_append in_line ((codes "set " ++ a.dst) ++ codes " = ") (when_text a.guard)
    (all_append in_line (codes "set " ++ a.dst) (codes " = ") (path_in_line a.dst d.0) refl)
    (when_in_line a.guard d.1))
    (source_in_line a.src b.1)

-- no line is the last one
pub line_not_end : (line : Line) → line_has_text line ≡ true → line_text line ≡ codes "end" → ⊥
unfolding line_of_text
line_not_end line h e = let none : ◌≡◌ {A = Option Line} None (Some line) = ap line_of_text (sym e) ∙ line_again line h in absurd cc

pub line_injective : (a b : Line) → line_has_text a ≡ true → line_has_text b ≡ true → line_text a ≡ line_text b → a ≡ b
line_injective a b h k e = let same : ◌≡◌ {A = Option Line} (Some a) (Some b) = sym (line_again a h) ∙ ap line_of_text e ∙ line_again b k in cc
