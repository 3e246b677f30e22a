-- Whether one of the pins has a name.
use Rattle.std.proofs.Common.{◌≡◌, ℕ, zero, suc, ◌+◌, ◌≤◌, Bool, true, false, List, [], ◌∷◌, ◌++◌, length, map, take, All, Some, refl, sym, ap, subst, ◌∙◌}
use Rattle.std.specs.Prelude.{slice_get, bytes_eq, if◌then◌else◌}
use Rattle.std.proofs.lemmas.Bool.{or_left, or_right, or_from, or_parts}
use Rattle.std.proofs.lemmas.List.{map_push, take_all}
use Rattle.hw_names.specs.Name.{KeepsTexts, Text, text_of}
use Rattle.hw_names.specs.declared.names.NameId.{NameId}
use Rattle.hw_prims.specs.Table.{Pin, pin}
use Rattle.cal_ast.specs.Numbers.{PinHasNumber}
use Rattle.cal_ast.specs.Ports.{has_pin, with_pin}
use Rattle.cal_ast.specs.Tree.{pin_tree}
use Rattle.cal_ast.specs.declared.tree.CalPin.{CalPin}
use Rattle.cal_lower.specs.inside.Shown.{ShowAll, Shows, ShowsName}
use Rattle.cal_lower.proofs.GrownLemmas.{name_number, name_text, show_all_kept, show_push}
use Rattle.cal_lower.proofs.StableLemmas.{KeepsTexts-trans, pins_kept, pins_numbers}

module _ (name : Text) where
  abbrev is_named : Pin → Bool
  is_named p = bytes_eq p.name name

  named_push : (pins : List Pin) (p : Pin) → has_pin pins name ≡ false → is_named p ≡ false → has_pin (pins ++ p ∷ []) name ≡ false
  named_push [] p none other = or_from (is_named p) false other refl
  named_push (q ∷ pins) p none other =
      let parts = or_parts (is_named q) (has_pin pins name) none in
      or_from (is_named q) (has_pin (pins ++ p ∷ []) name) parts.0 (named_push pins p parts.1 other)

  module _ (names : List Text) where
    pub one_named : (pins : List CalPin) (k : ℕ) (p : CalPin) → slice_get pins k ≡ Some p → bytes_eq (text_of names p.name) name ≡ true → has_pin (map (pin_tree names) pins) name ≡ true
    one_named [] k p at is = absurd (cc)
    one_named (q ∷ pins) zero p at is =
        let same : q ≡ p = cc in
        or_left (is_named (pin_tree names q)) (has_pin (map (pin_tree names) pins) name) (ap (λ (x : CalPin). bytes_eq (text_of names x.name) name) same ∙ is)
    one_named (q ∷ pins) (suc k) p at is = or_right (is_named (pin_tree names q)) (has_pin (map (pin_tree names) pins) name) (one_named pins k p at is)

    pub none_named_more : (pins : List CalPin) (i : ℕ) (p : CalPin) → take (i + 1) pins ≡ take i pins ++ p ∷ [] → has_pin (map (pin_tree names) (take i pins)) name ≡ false
        → bytes_eq (text_of names p.name) name ≡ false → has_pin (map (pin_tree names) (take (i + 1) pins)) name ≡ false
    none_named_more pins i p more none other =
        ap (λ (l : List CalPin). has_pin (map (pin_tree names) l) name) more ∙ ap (λ (l : List Pin). has_pin l name) (map_push (pin_tree names) (take i pins) p)
        ∙ named_push (map (pin_tree names) (take i pins)) (pin_tree names p) none other

    pub none_named : (pins : List CalPin) (i : ℕ) → length pins ≤ i → has_pin (map (pin_tree names) (take i pins)) name ≡ false → false ≡ has_pin (map (pin_tree names) pins) name
    none_named pins i past none = sym none ∙ ap (λ (l : List CalPin). has_pin (map (pin_tree names) l) name) (take_all i pins past)

-- ---- the pins of the source, and one of this name

pub pin_shown : (names : List Text) (name : Text) (id : NameId) → ShowsName names name id → Shows PinHasNumber pin_tree names (pin name 1) (record { name = id; width = 1 })
pin_shown names name id named = record {
  tree = λ later more. ap (λ (t : Text). pin t 1) (name_text later name id (more _ _ named));
  numbers = λ later more. name_number later name id (more _ _ named);
}

module _ (source names : List Text) (pins : List CalPin) (kept : KeepsTexts source names) (known : All (PinHasNumber source) pins) where
  abbrev source_trees : List Pin
  source_trees = map (pin_tree source) pins

  source_pins : ShowAll PinHasNumber pin_tree names source_trees pins
  source_pins = record {
    trees = λ later more. pins_kept source later (KeepsTexts-trans source names later kept more) pins known;
    numbers = λ later more. pins_numbers source later (KeepsTexts-trans source names later kept more) pins known;
  }

  has_in_source : (name : Text) (b : Bool) → has_pin (map (pin_tree names) pins) name ≡ b → has_pin source_trees name ≡ b
  has_in_source name b has = ap (λ (ps : List Pin). has_pin ps name) (sym (pins_kept source names kept pins known)) ∙ has

  pub pin_there : (name : Text) (items : List CalPin) → items ≡ pins → has_pin (map (pin_tree names) pins) name ≡ true → ShowAll PinHasNumber pin_tree names (with_pin name source_trees) items
  pin_there name items is has =
      let P : List Pin → Type 0 = λ ys. ShowAll PinHasNumber pin_tree names ys items in
      let Q : List CalPin → Type 0 = ShowAll PinHasNumber pin_tree names source_trees in
      let same : with_pin name source_trees ≡ source_trees = ap (λ (b : Bool). if b then source_trees else source_trees ++ pin name 1 ∷ []) (has_in_source name true has) in
      subst P (sym same) (subst Q (sym is) source_pins)

  pub pin_added : (new : List Text) (name : Text) (id : NameId) (items : List CalPin) → KeepsTexts names new → ShowsName new name id → items ≡ pins ++ record { name = id; width = 1 } ∷ []
      → has_pin (map (pin_tree names) pins) name ≡ false → ShowAll PinHasNumber pin_tree new (with_pin name source_trees) items
  pin_added new name id items more named is has =
      let all = source_trees ++ pin name 1 ∷ [] in
      let P : List Pin → Type 0 = λ ys. ShowAll PinHasNumber pin_tree new ys items in
      let Q : List CalPin → Type 0 = ShowAll PinHasNumber pin_tree new all in
      let same : with_pin name source_trees ≡ all = ap (λ (b : Bool). if b then source_trees else all) (has_in_source name false has) in
      let before = show_all_kept PinHasNumber pin_tree names new source_trees pins more source_pins in
      subst P (sym same) (subst Q (sym is) (show_push PinHasNumber pin_tree new source_trees pins (pin name 1) (record { name = id; width = 1 }) before (pin_shown new name id named)))
