-- A netlist with a text has its names in its list.
use Rattle.std.proofs.Common.{◌≡◌, ◌&&◌, Bool, true, false, leb, List, [], ◌∷◌, ◌++◌, length, map, All, Option, Some, None, refl, sym, ap, ◌∙◌, inl, inr}
use Rattle.std.specs.List.{list_all, AllByRecursion}
use Rattle.std.proofs.lemmas.Bool.{cases_lt}
use Rattle.std.proofs.lemmas.List.{get_or_past}
use Rattle.std.proofs.lemmas.List.Elements.{All-from_recursion}
use Rattle.hw_names.specs.Name.{Text, text_of}
use Rattle.hw_names.specs.declared.names.NameId.{NameId}
use Rattle.net_core.specs.Guard.{source_tree, guard_tree, guard_trees, guard_option}
use Rattle.net_core.specs.Netlist.{Line, InLine, OutLine, WireLine, CellOf, SetOf, pin_of, cell_of, set_of, netlist_of}
use Rattle.net_core.specs.Numbers.{IsNumberOf, SourceHasNumbers, GuardHasNumbers, GuardsHaveNumbers, WhenHasNumbers, PortHasNumbers, CellHasNumbers, SetHasNumbers, HasNumbers}
use Rattle.net_core.specs.declared.net.Guard.{Guard, Row_of-Guard, end_of-Guard, more_of-Guard}
use Rattle.net_core.specs.declared.net.Guard as code
use Rattle.net_core.specs.declared.net.Net.{Net}
use Rattle.net_core.specs.declared.net.NetAssign.{NetAssign}
use Rattle.net_core.specs.declared.net.NetCell.{NetCell}
use Rattle.net_core.specs.declared.net.NetPort.{NetPort}
use Rattle.net_core.specs.declared.net.Src.{Src}
use Rattle.net_core.specs.declared.net.Src.TheVariants.{Port, Lit}
use Rattle.net_text.specs.Names.{is_segment, is_path, is_number, source_has_text, count_guards, guard_has_text, guards_have_text, when_has_text, line_has_text, HasText}
use Rattle.net_text.proofs.NumberLaws.{both_true}

below : (test : Text → Bool) (names : List Text) (id : NameId) → test [] ≡ false → test (text_of names id) ≡ true → IsNumberOf names id
below test names id none h =
    elim (cases_lt id.0 (length names)) [
      | inl lt ↦ lt
      | inr le ↦ let no_text : true ≡ false = sym h ∙ ap test (get_or_past names id.0 [] le) ∙ none in absurd cc
    ]

source_below : (names : List Text) (s : Src NameId) → source_has_text (source_tree (text_of names) s) ≡ true → SourceHasNumbers names s
source_below names (Port p) h = below is_path names p refl h
source_below names (Lit width value) h = tt

mutual
  guard_below : (names : List Text) (g : Guard NameId) → guard_has_text (guard_tree (text_of names) g) ≡ true → GuardHasNumbers names g
  guard_below names (code.Read s) h = source_below names s.value h
  guard_below names (code.Test op a b) h =
      let k = both_true (source_has_text (source_tree (text_of names) a.value)) (source_has_text (source_tree (text_of names) b.value)) h in
      (source_below names a.value k.0, source_below names b.value k.1)
  guard_below names (code.Not' p g) h = guard_below names g h
  guard_below names (code.All' shape gs) h = row_below names gs (both_true (leb 2 (count_guards (guard_trees (text_of names) gs))) (guards_have_text (guard_trees (text_of names) gs)) h).1
  guard_below names (code.Any' shape gs) h = row_below names gs (both_true (leb 2 (count_guards (guard_trees (text_of names) gs))) (guards_have_text (guard_trees (text_of names) gs)) h).1

  row_below : {m : _} (names : List Text) (gs : Row_of-Guard NameId m) → guards_have_text (guard_trees (text_of names) gs) ≡ true → GuardsHaveNumbers names gs
  row_below names end_of-Guard h = tt
  row_below names (more_of-Guard g gs) h =
      let b = both_true (guard_has_text (guard_tree (text_of names) g)) (guards_have_text (guard_trees (text_of names) gs)) h in
      (guard_below names g b.0, row_below names gs b.1)

when_below : (names : List Text) (guard : Option (Guard NameId)) → when_has_text (guard_option (text_of names) guard) ≡ true → WhenHasNumbers names guard
when_below names None h = tt
when_below names (Some g) h = guard_below names g h

in_below : (names : List Text) (p : NetPort) → line_has_text (InLine (pin_of names p)) ≡ true → PortHasNumbers names p
in_below names p h = below is_segment names p.name refl (both_true (is_segment (text_of names p.name)) (is_number p.width) h).0

wire_below : (names : List Text) (p : NetPort) → line_has_text (WireLine (pin_of names p)) ≡ true → PortHasNumbers names p
wire_below names p h = below is_path names p.name refl (both_true (is_path (text_of names p.name)) (is_number p.width) h).0

cell_below : (names : List Text) (c : NetCell) → line_has_text (CellOf (cell_of names c)) ≡ true → CellHasNumbers names c
cell_below names c h =
    let a = both_true (is_path (text_of names c.name) && is_segment (text_of names c.prim)) (list_all is_number c.params.items) h in
    let b = both_true (is_path (text_of names c.name)) (is_segment (text_of names c.prim)) a.0 in
    (below is_path names c.name refl b.0, below is_segment names c.prim refl b.1)

set_below : (names : List Text) (a : NetAssign) → line_has_text (SetOf (set_of names a)) ≡ true → SetHasNumbers names a
set_below names a h =
    let b = both_true (is_path (text_of names a.dst) && when_has_text (guard_option (text_of names) a.guard)) (source_has_text (source_tree (text_of names) a.src)) h in
    let d = both_true (is_path (text_of names a.dst)) (when_has_text (guard_option (text_of names) a.guard)) b.0 in
    (below is_path names a.dst refl d.0, when_below names a.guard d.1, source_below names a.src b.1)

all_below : {A : Type 0} (of : A → Line) (P : A → Type 0) → ((a : A) → line_has_text (of a) ≡ true → P a) → (xs : List A) → list_all line_has_text (map of xs) ≡ true → AllByRecursion P xs
all_below of P f [] h = tt
all_below of P f (x ∷ xs) h =
    let b = both_true (line_has_text (of x)) (list_all line_has_text (map of xs)) h in
    (f x b.0, all_below of P f xs b.1)

map_twice : {A B C : Type 0} (f : B → C) (g : A → B) (xs : List A) → map f (map g xs) ≡ map (λ x. f (g x)) xs
map_twice f g [] = refl
map_twice f g (x ∷ xs) = ap (λ ys. f (g x) ∷ ys) (map_twice f g xs)

section_below : {A B : Type 0} (of : B → Line) (view : A → B) (P : A → Type 0) → ((a : A) → line_has_text (of (view a)) ≡ true → P a) → (xs : List A) → list_all line_has_text (map of (map view xs)) ≡ true → All P xs
section_below of view P f xs h = All-from_recursion P xs (all_below (λ a. of (view a)) P f xs (ap (list_all line_has_text) (sym (map_twice of view xs)) ∙ h))

all_parts : (xs ys : List Line) → list_all line_has_text (xs ++ ys) ≡ true → (list_all line_has_text xs ≡ true) × (list_all line_has_text ys ≡ true)
all_parts [] ys h = (refl, h)
all_parts (x ∷ xs) ys h =
    let b = both_true (line_has_text x) (list_all line_has_text (xs ++ ys)) h in
    let r = all_parts xs ys b.1 in
    (rw b.0 r.0, r.1)

pub HasNumbers-from_text : (net : Net) → HasText (netlist_of net) → HasNumbers net
HasNumbers-from_text net h =
    let n = netlist_of net in
    let names = net.names in
    let a = all_parts (map InLine n.ins ++ map OutLine n.outs ++ map WireLine n.wires ++ map CellOf n.cells) (map SetOf n.sets) h.1 in
    let b = all_parts (map InLine n.ins ++ map OutLine n.outs ++ map WireLine n.wires) (map CellOf n.cells) a.0 in
    let c = all_parts (map InLine n.ins ++ map OutLine n.outs) (map WireLine n.wires) b.0 in
    let d = all_parts (map InLine n.ins) (map OutLine n.outs) c.0 in
    record {
      name = below is_segment names net.name refl h.0;
      ins = section_below InLine (pin_of names) (PortHasNumbers names) (in_below names) net.ins.items d.0;
      outs = section_below OutLine (pin_of names) (PortHasNumbers names) (in_below names) net.outs.items d.1;
      wires = section_below WireLine (pin_of names) (PortHasNumbers names) (wire_below names) net.wires.items c.1;
      cells = section_below CellOf (cell_of names) (CellHasNumbers names) (cell_below names) net.cells.items b.1;
      sets = section_below SetOf (set_of names) (SetHasNumbers names) (set_below names) net.sets.items a.1;
    }
