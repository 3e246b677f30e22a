-- A netlist with its guards folded has a text, where the other has.
use Rattle.std.proofs.Common.{◌≡◌, ℕ, ◌+◌, ◌≤◌, Bool, true, false, ◌&&◌, nat_le, List, ◌++◌, map, All, Option, Some, None, refl, sym, ap, subst, ◌∙◌, arith}
use Rattle.std.specs.List.{list_all}
use Rattle.std.proofs.lemmas.Bool.{and_from, and_parts}
use Rattle.std.proofs.lemmas.Bool.Decides.{nat_tests}
use Rattle.std.proofs.lemmas.List.Elements.{All-head, All-tail}
use Rattle.std.proofs.lemmas.List.Folds.{list_all-append}
use Rattle.hw_names.specs.Name.{Text}
use Rattle.net_core.specs.Guard.{GuardTree, GuardTrees, Reads, Compares, Negates, AllOf, AnyOf, NoGuards, MoreGuards}
use Rattle.net_core.specs.Netlist.{CellLine, Netlist, Line, InLine, OutLine, WireLine, CellOf, SetOf, SetLine}
use Rattle.hw_prims.specs.Table.{Pin}
use Rattle.net_guard.proofs.LeafLemmas.{all_within}
use Rattle.net_guard.specs.Folded as folded
use Rattle.net_guard.specs.Folded.{IsFolded, AreFolded, IsFoldedOption, HasFoldedGuards}
use Rattle.net_guard.specs.Simplified.{AreSimplifiedSets, NoSets, Kept, Left, IsSimplified, IsSimplifiedSet, leaves, all_leaves, option_leaves}
use Rattle.net_text.specs.Names.{HasText, count_guards, guard_has_text, guards_have_text, is_path, is_segment, line_has_text, source_has_text, when_has_text}

-- ---- the text of a guard, by its leaves

and_true : (b : Bool) → b ≡ true → (b && true) ≡ true
and_true b is = and_from b true is refl

mutual
  leaves_text : (g : GuardTree Text) → guard_has_text g ≡ true → list_all guard_has_text (leaves g) ≡ true
  leaves_text (Reads s) is = and_true (guard_has_text (Reads s)) is
  leaves_text (Compares op a b) is = and_true (guard_has_text (Compares op a b)) is
  leaves_text (Negates g) is = leaves_text g is
  leaves_text (AllOf gs) is = all_leaves_text gs (and_parts (nat_le 2 (count_guards gs)) (guards_have_text gs) is).1
  leaves_text (AnyOf gs) is = all_leaves_text gs (and_parts (nat_le 2 (count_guards gs)) (guards_have_text gs) is).1

  all_leaves_text : (gs : GuardTrees Text) → guards_have_text gs ≡ true → list_all guard_has_text (all_leaves gs) ≡ true
  all_leaves_text NoGuards is = refl
  all_leaves_text (MoreGuards g gs) is =
      let (first, others) = and_parts (guard_has_text g) (guards_have_text gs) is in
      list_all-append guard_has_text (leaves g) (all_leaves gs)
      ∙ and_from (list_all guard_has_text (leaves g)) (list_all guard_has_text (all_leaves gs)) (leaves_text g first) (all_leaves_text gs others)

same_count : (gs : GuardTrees Text) → folded.count_guards gs ≡ count_guards gs
same_count NoGuards = refl
same_count (MoreGuards g gs) = ap (λ (n : ℕ). n + 1) (same_count gs)

two_guards : (gs : GuardTrees Text) → 2 ≤ folded.count_guards gs → nat_le 2 (count_guards gs) ≡ true
two_guards gs two =
    let enough : 2 ≤ count_guards gs = subst (λ (n : ℕ). 2 ≤ n) (same_count gs) two in
    grind (arith, nat_tests, enough)

mutual
  text_of_leaves : (g : GuardTree Text) → IsFolded g → list_all guard_has_text (leaves g) ≡ true → guard_has_text g ≡ true
  text_of_leaves (Reads s) is all = (and_parts (guard_has_text (Reads s)) true all).0
  text_of_leaves (Compares op a b) is all = (and_parts (guard_has_text (Compares op a b)) true all).0
  text_of_leaves (Negates g) is all = text_of_leaves g is.1 all
  text_of_leaves (AllOf gs) is all = and_from (nat_le 2 (count_guards gs)) (guards_have_text gs) (two_guards gs is.0.lists) (texts_of_leaves gs is.1 all)
  text_of_leaves (AnyOf gs) is all = and_from (nat_le 2 (count_guards gs)) (guards_have_text gs) (two_guards gs is.0.lists) (texts_of_leaves gs is.1 all)

  texts_of_leaves : (gs : GuardTrees Text) → AreFolded gs → list_all guard_has_text (all_leaves gs) ≡ true → guards_have_text gs ≡ true
  texts_of_leaves NoGuards are all = refl
  texts_of_leaves (MoreGuards g gs) are all =
      let (first, others) = and_parts (list_all guard_has_text (leaves g)) (list_all guard_has_text (all_leaves gs)) (sym (list_all-append guard_has_text (leaves g) (all_leaves gs)) ∙ all) in
      and_from (guard_has_text g) (guards_have_text gs) (text_of_leaves g are.0 first) (texts_of_leaves gs are.1 others)

option_leaves_text : (g : Option (GuardTree Text)) → when_has_text g ≡ true → list_all guard_has_text (option_leaves g) ≡ true
option_leaves_text None is = refl
option_leaves_text (Some g) is = leaves_text g is

text_of_option : (g : Option (GuardTree Text)) → IsFoldedOption g → list_all guard_has_text (option_leaves g) ≡ true → when_has_text g ≡ true
text_of_option None is all = refl
text_of_option (Some g) is all = text_of_leaves g is all

-- ---- the text of a netlist

three_parts : (a b c : Bool) → (a && b && c) ≡ true → (a ≡ true) × (b ≡ true) × (c ≡ true)
three_parts true true true all = (refl, refl, refl)
three_parts true true false all = absurd (cc)
three_parts true false c all = absurd (cc)
three_parts false b c all = absurd (cc)

all_three : (a b c : Bool) → a ≡ true → b ≡ true → c ≡ true → (a && b && c) ≡ true
all_three a b c is_a is_b is_c = rw (is_a, is_b, is_c) refl

set_text : (old new : SetLine) → IsSimplifiedSet old new → IsFoldedOption new.guard → line_has_text (SetOf old) ≡ true → line_has_text (SetOf new) ≡ true
set_text old new s is all =
    let (dst, guard, src) = three_parts (is_path old.dst) (when_has_text old.guard) (source_has_text old.src) all in
    all_three (is_path new.dst) (when_has_text new.guard) (source_has_text new.src) (ap is_path s.dst ∙ dst)
    (text_of_option new.guard is (all_within guard_has_text (option_leaves new.guard) (option_leaves old.guard) s.leaves (option_leaves_text old.guard guard))) (ap source_has_text s.src ∙ src)

abbrev IsFoldedSet : SetLine → Type 0
IsFoldedSet a = IsFoldedOption a.guard

sets_text : (olds news : List SetLine) → AreSimplifiedSets olds news → All IsFoldedSet news → list_all line_has_text (map SetOf olds) ≡ true → list_all line_has_text (map SetOf news) ≡ true
sets_text _ _ NoSets are all = refl
sets_text _ _ (Kept old new olds news s rest) are all =
    let (first, others) = and_parts (line_has_text (SetOf old)) (list_all line_has_text (map SetOf olds)) all in
    and_from (line_has_text (SetOf new)) (list_all line_has_text (map SetOf news)) (set_text old new s (All-head IsFoldedSet new news are) first) (sets_text olds news rest (All-tail IsFoldedSet new news are) others)
sets_text _ _ (Left old olds news never rest) are all =
    sets_text olds news rest are (and_parts (line_has_text (SetOf old)) (list_all line_has_text (map SetOf olds)) all).1

abbrev lines_with : List Pin → List Pin → List Pin → List CellLine → List Line
lines_with ins outs wires cells = map InLine ins ++ map OutLine outs ++ map WireLine wires ++ map CellOf cells

abbrev first_lines : Netlist → List Line
first_lines n = lines_with n.ins n.outs n.wires n.cells

same_first : (old new : Netlist) → IsSimplified old new → first_lines new ≡ first_lines old
same_first old new s = λ i. lines_with (s.ins i) (s.outs i) (s.wires i) (s.cells i)

pub keeps_text : (old new : Netlist) → IsSimplified old new → HasFoldedGuards new → HasText old → HasText new
keeps_text old new s are (named, all) =
    let (first, sets) = and_parts (list_all line_has_text (first_lines old)) (list_all line_has_text (map SetOf old.sets)) (sym (list_all-append line_has_text (first_lines old) (map SetOf old.sets)) ∙ all) in (
      ap is_segment s.name ∙ named,
      list_all-append line_has_text (first_lines new) (map SetOf new.sets)
          ∙ and_from (list_all line_has_text (first_lines new)) (list_all line_has_text (map SetOf new.sets)) (ap (list_all line_has_text) (same_first old new s) ∙ first) (sets_text old.sets new.sets s.sets are sets),
    )
