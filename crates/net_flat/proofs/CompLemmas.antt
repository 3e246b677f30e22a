-- The first component of each name, as components come.
use Rattle.std.proofs.Common.{◌≡◌, ◌≢◌, ℕ, ◌<◌, Bool, true, false, cond, ◌==◌, List, [], ◌∷◌, ◌++◌, length, map, get_or, set, replicate, All, Option, Some, None, IfSome, is_some, option_map, bytes_eq, refl, sym, ap, ap₂, subst, ◌∙◌, inl, inr, ◌⊎◌, arith, Bor}
use Rattle.std.specs.Option.{option_or}
use Rattle.std.proofs.lemmas.List.{get_or_default, length-set, length-replicate, get_or-replicate, get_or-set_same, get_or-set_other, map-append}
use Rattle.std.proofs.lemmas.List.Elements.{All-replicate, All-set}
use Rattle.std.proofs.lemmas.List.Folds.{find-append}
use Rattle.std.proofs.lemmas.Bool.Decides.{Decides-eqb}
use Rattle.std.proofs.lemmas.Slice.Eq.{bytes_eq-Decides}
use Rattle.hw_names.proofs.NameLemmas.{id_from_number, same_id}
use Rattle.hw_names.specs.Name.{Text, AreDistinct, text_of}
use Rattle.hw_names.specs.declared.names.NameId.{NameId}
use Rattle.cal_ast.specs.Numbers.{ComponentHasNumbers}
use Rattle.cal_ast.specs.Ports.{component_named}
use Rattle.cal_ast.specs.Tree.{Component, component_tree}
use Rattle.cal_ast.specs.declared.tree.CalComp.{CalComp}

-- for each name the first of these components that has it
pub record HasFirst (names : List Text) (comps : List CalComp) (items : List (Option (Bor CalComp))) : Type 0 where
  pub sized : length items ≡ length names
  pub first : (name : NameId) → name.0 < length names → option_map (λ c. component_tree names c.now) (get_or items name.0 None) ≡ component_named (map (component_tree names) comps) (text_of names name)
  pub numbers : All (λ found. IfSome found (λ c. ComponentHasNumbers names c.now)) items

pub first_none : (names : List Text) (items : List (Option (Bor CalComp))) → items ≡ replicate (length names) None → HasFirst names [] items
first_none names items is =
    subst (HasFirst names []) (sym is)
    (record {
      sized = length-replicate (length names) None;
      first = λ name within. ap (option_map (λ c. component_tree names c.now)) (get_or-replicate (length names) name.0 None None within);
      numbers = All-replicate (λ found. IfSome found (λ c. ComponentHasNumbers names c.now)) (length names) None tt;
    })

-- what is so where each clone of none is none, where no clone of none is some
pub none_alone : {X : Type 0} {P : Option X → Type 0} {S : Type 0} → (((y : Option X) → P y → y ≡ None) → S) → ((x : X) → P (Some x) → ⊥) → S
none_alone {X} {P} so not_some = so (λ y h. each y h)
  where
    each : (y : Option X) → P y → y ≡ None
    each None h = refl
    each (Some x) h = absurd (not_some x h)

-- what was read at a place
pub read_none : {X : Type 0} (items : List (Option X)) (place : ℕ) (found : Option X) → place < length items → found ≡ get_or items place found → is_some found ≡ false → get_or items place None ≡ None
read_none items place None within at none = sym at
read_none items place (Some x) within at none = absurd (cc)

pub read_some : {X : Type 0} (items : List (Option X)) (place : ℕ) (found : Option X) → place < length items → found ≡ get_or items place found → is_some found ≡ true → (x : X) × (get_or items place None ≡ Some x)
read_some items place None within at some = absurd (cc)
read_some items place (Some x) within at some = (x, get_or_default items place None (Some x) within ∙ sym at)

module _ (names : List Text) (distinct : AreDistinct names) (comps : List CalComp) (items : List (Option (Bor CalComp))) (so_far : HasFirst names comps items) (c : CalComp) (within : c.name.0 < length names) where
  abbrev named : NameId → List Component → Option Component
  named name cs = component_named cs (text_of names name)

  abbrev tree_at : Option (Bor CalComp) → Option Component
  tree_at found = option_map (λ (d : Bor CalComp). component_tree names d.now) found

  one_more : (name : NameId) → named name (map (component_tree names) (comps ++ c ∷ [])) ≡ option_or (named name (map (component_tree names) comps)) (named name (component_tree names c ∷ []))
  one_more name = ap (named name) (map-append (component_tree names) comps (c ∷ [])) ∙ find-append (λ (d : Component). bytes_eq d.name (text_of names name)) (map (component_tree names) comps) (component_tree names c ∷ [])

  or_none : (found : Option Component) → option_or found None ≡ found
  or_none None = refl
  or_none (Some d) = refl

  -- at another name a component changes nothing
  other_name : (name : NameId) → name.0 < length names → c.name ≢ name → named name (component_tree names c ∷ []) ≡ None
  other_name name there other = by (bytes_eq (text_of names c.name) (text_of names name)) refl
    where
      by : (b : Bool) → bytes_eq (text_of names c.name) (text_of names name) ≡ b → cond (bytes_eq (text_of names c.name) (text_of names name)) (Some (component_tree names c)) None ≡ None
      by true is = absurd (other (same_id names c.name name distinct within there ((bytes_eq-Decides (text_of names c.name) (text_of names name)).0 is)))
      by false is = rw is

  own_name : named c.name (component_tree names c ∷ []) ≡ Some (component_tree names c)
  own_name = let is = (bytes_eq-Decides (text_of names c.name) (text_of names c.name)).1 refl in rw is

  same_or_not : (a b : NameId) → (a ≡ b) ⊎ (a ≢ b)
  same_or_not a b = by (a.0 == b.0) refl
    where
      by : (t : Bool) → (a.0 == b.0) ≡ t → (a ≡ b) ⊎ (a ≢ b)
      by true is = inl (id_from_number a b ((Decides-eqb a.0 b.0).0 is))
      by false is = inr (λ same. let yes = (Decides-eqb a.0 b.0).1 (ap (λ (id : NameId). id.0) same) in cc)

  pub first_kept : (r : Bor CalComp) → get_or items c.name.0 None ≡ Some r → HasFirst names (comps ++ c ∷ []) items
  first_kept r there =
      record {
        sized = so_far.sized;
        first = λ name at. so_far.first name at ∙ by name at (same_or_not c.name name) ∙ sym (one_more name);
        numbers = so_far.numbers;
      }
    where
      by : (name : NameId) → name.0 < length names → (c.name ≡ name) ⊎ (c.name ≢ name) → named name (map (component_tree names) comps) ≡ option_or (named name (map (component_tree names) comps)) (named name (component_tree names c ∷ []))
      by name at (inl same) =
          let found : named name (map (component_tree names) comps) ≡ Some (component_tree names r.now) =
          sym (so_far.first name at) ∙ ap (λ (id : NameId). option_map (λ (d : Bor CalComp). component_tree names d.now) (get_or items id.0 None)) (sym same) ∙ ap (option_map (λ (d : Bor CalComp). component_tree names d.now)) there in
          rw found
      by name at (inr other) = sym (ap (option_or (named name (map (component_tree names) comps))) (other_name name at other) ∙ or_none (named name (map (component_tree names) comps)))

  pub first_set : (r : Bor CalComp) → r.now ≡ c → ComponentHasNumbers names c → get_or items c.name.0 None ≡ None → HasFirst names (comps ++ c ∷ []) (set items c.name.0 (Some r))
  first_set r is numbers none =
      record {
        sized = length-set items c.name.0 (Some r) ∙ so_far.sized;
        first = λ name at. by name at (same_or_not c.name name) ∙ sym (one_more name);
        numbers = All-set (λ found. IfSome found (λ d. ComponentHasNumbers names d.now)) items c.name.0 (Some r) (subst (ComponentHasNumbers names) (sym is) numbers) so_far.numbers;
      }
    where
      inside : c.name.0 < length items
      inside = omega (arith, within, so_far.sized)

      missing : named c.name (map (component_tree names) comps) ≡ None
      missing = sym (so_far.first c.name within) ∙ ap tree_at none

      at_own : tree_at (get_or (set items c.name.0 (Some r)) c.name.0 None) ≡ option_or (named c.name (map (component_tree names) comps)) (named c.name (component_tree names c ∷ []))
      at_own = ap tree_at (get_or-set_same items c.name.0 (Some r) None inside) ∙ ap Some (ap (component_tree names) is) ∙ sym (ap₂ option_or missing own_name)

      by : (name : NameId) → name.0 < length names → (c.name ≡ name) ⊎ (c.name ≢ name)
          → option_map (λ (d : Bor CalComp). component_tree names d.now) (get_or (set items c.name.0 (Some r)) name.0 None) ≡ option_or (named name (map (component_tree names) comps)) (named name (component_tree names c ∷ []))
      by name at (inl same) = subst (λ (id : NameId). tree_at (get_or (set items c.name.0 (Some r)) id.0 None) ≡ option_or (named id (map (component_tree names) comps)) (named id (component_tree names c ∷ []))) same at_own
      by name at (inr other) =
          ap tree_at (get_or-set_other items c.name.0 name.0 (Some r) None (λ e. other (id_from_number c.name name (sym e))))
          ∙ so_far.first name at
          ∙ sym (ap (option_or (named name (map (component_tree names) comps))) (other_name name at other) ∙ or_none (named name (map (component_tree names) comps)))
