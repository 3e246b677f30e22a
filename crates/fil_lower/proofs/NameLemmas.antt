-- Look-ups by name, in lists whose names differ.
use Rattle.std.proofs.Common.{◌≡◌, ℕ, zero, suc, Bool, true, false, cond, List, [], ◌∷◌, ◌++◌, length, map, reverse, Option, Some, None, refl, sym, ap, ap₂, ◌∙◌, inl, inr, arith}
use Rattle.std.specs.Option.{option_or}
use Rattle.std.specs.Prelude.{◌≢◌, AllPairs, Contains, bytes_eq, if◌then◌else◌}
use Rattle.std.proofs.lemmas.Bool.{false_from_ne_true}
use Rattle.std.proofs.lemmas.List.{get_or-map, length-map, reverse-append}
use Rattle.std.proofs.lemmas.List.Elements.{Contains-append_right}
use Rattle.std.proofs.lemmas.List.Folds.{find-append}
use Rattle.std.proofs.lemmas.Option.{none-some}
use Rattle.std.proofs.lemmas.Slice.Eq.{bytes_eq-Decides}
use Rattle.hw_names.specs.Name.{Text, AreDistinct}
use Rattle.fil_ast.specs.Naming.{component_names}
use Rattle.fil_ast.specs.Scope.{component_named}
use Rattle.fil_ast.specs.Signature.{SigPort}
use Rattle.fil_ast.specs.Tree.{Component, Design}
use Rattle.fil_share.proofs.ListLemmas.{two_of}
use Rattle.fil_share.proofs.Lookup.{find_nowhere}
use Rattle.fil_lower.proofs.ListLemmas.{contains_none, first_or_later}

pub same_name : (a b : Text) → a ≡ b → bytes_eq a b ≡ true
same_name a b same = (bytes_eq-Decides a b).1 same

pub other_name : (a b : Text) → (a ≡ b → ⊥) → bytes_eq a b ≡ false
other_name a b apart = false_from_ne_true (bytes_eq a b) (λ is. apart ((bytes_eq-Decides a b).0 is))

pub later_distinct : (name : Text) (names : List Text) → AreDistinct (name ∷ names) → AreDistinct names
later_distinct name names distinct i j d before within = distinct (suc i) (suc j) d (omega (arith, before)) (omega (arith, within))

pub first_differs : (name : Text) (names : List Text) (other : Text) → AreDistinct (name ∷ names) → Contains names other → name ≡ other → ⊥
first_differs name names other distinct (k, within, at) same = distinct 0 (suc k) other (omega arith) (omega (arith, within)) (same ∙ sym at)

pub distinct_rest : (xs ys : List Text) → AreDistinct (xs ++ ys) → AreDistinct ys
distinct_rest [] ys distinct = distinct
distinct_rest (x ∷ xs) ys distinct = distinct_rest xs ys (later_distinct x (xs ++ ys) distinct)

-- of two lists that are joined to distinct names, none is in both
pub apart_joined : (xs ys : List Text) → AreDistinct (xs ++ ys) → (name : Text) → Contains xs name → Contains ys name → ⊥
apart_joined [] ys distinct name has_x has_y = contains_none name has_x
apart_joined (x ∷ xs) ys distinct name has_x has_y =
    elim (first_or_later x xs name has_x) [
      | inl same ↦ first_differs x (xs ++ ys) name distinct (Contains-append_right xs ys name has_y) same
      | inr later ↦ apart_joined xs ys (later_distinct x (xs ++ ys) distinct) name later has_y
    ]

-- functions that agree on the elements of a list
pub map_agree : {X Y : Type 0} (f g : X → Y) (xs : List X) → ((x : X) → Contains xs x → f x ≡ g x) → map f xs ≡ map g xs
map_agree f g [] same = refl
map_agree f g (x ∷ xs) same =
    ap₂ ◌∷◌ (same x (zero, omega arith, refl)) (map_agree f g xs (λ y (k, within, at). same y (suc k, omega (arith, within), at)))

-- what an element of a mapped list comes from
pub from_map : {X Y : Type 0} (f : X → Y) (xs : List X) (y : Y) → Contains (map f xs) y → (x : X) × Contains xs x × (f x ≡ y)
from_map f [] y has = absurd (contains_none y has)
from_map f (x ∷ xs) y has =
    elim (first_or_later (f x) (map f xs) y has) [
      | inl same ↦ (x, (zero, omega arith, refl), same)
      | inr later ↦ let m = from_map f xs y later in (m.0, (suc m.1.0, omega (arith, m.1.1), m.1.2), m.2)
    ]

-- elements of one name are one
pub same_element : {X : Type 0} (name_of : X → Text) (xs : List X) (x y : X) → AreDistinct (map name_of xs) → Contains xs x → Contains xs y → name_of x ≡ name_of y → x ≡ y
same_element {X} name_of xs x y distinct has_x has_y same =
    let R : X → X → Type 0 = λ a b. name_of a ≢ name_of b in
    elim (two_of R xs x y pairs has_x has_y) [
      | inl one ↦ one
      | inr (inl differ) ↦ absurd (differ same)
      | inr (inr differ) ↦ absurd (differ (sym same))
    ]
  where
    pairs : AllPairs (λ (a b : X). name_of a ≢ name_of b) xs
    pairs i j d before within at =
        distinct i j (name_of d) before (omega (arith, within, length-map xs name_of))
        (get_or-map name_of xs i d (name_of d) (omega (arith, before, within)) ∙ at ∙ sym (get_or-map name_of xs j d (name_of d) within))

-- ---- values given by position, and by name

-- the value in the place of the port of a name; 0 where there is none
abbrev pub given_to : List SigPort → List ℕ → Text → ℕ
given_to (p ∷ ports) (x ∷ xs) name = if bytes_eq p.name name then x else given_to ports xs name
given_to ports xs name = 0

abbrev pub sig_names : List SigPort → List Text
sig_names ports = map (λ (p : SigPort). p.name) ports

-- the values by name are those by position
pub given_each : (ports : List SigPort) (xs : List ℕ) → AreDistinct (sig_names ports) → length xs ≡ length ports → map (given_to ports xs) (sig_names ports) ≡ xs
given_each [] [] distinct long = refl
given_each [] (x ∷ xs) distinct long = absurd (omega (arith, long))
given_each (p ∷ ports) [] distinct long = absurd (omega (arith, long))
given_each (p ∷ ports) (x ∷ xs) distinct long =
    ap₂ ◌∷◌ (ap (λ (b : Bool). if b then x else given_to ports xs p.name) (same_name p.name p.name refl))
    (map_agree (given_to (p ∷ ports) (x ∷ xs)) (given_to ports xs) (sig_names ports)
    (λ name there. ap (λ (b : Bool). if b then x else given_to ports xs name) (other_name p.name name (first_differs p.name (sig_names ports) name distinct there)))
    ∙ given_each ports xs (later_distinct p.name (sig_names ports) distinct) (omega (arith, long)))

-- ---- components by name, the latest first

back : (c : Component) (comps : Design) (name : Text) → component_named (reverse (c ∷ comps)) name ≡ option_or (component_named (reverse comps) name) (cond (bytes_eq c.name name) (Some c) None)
back c comps name =
    ap (λ (cs : Design). component_named cs name) (reverse-append (c ∷ []) comps)
    ∙ find-append (λ (d : Component). bytes_eq d.name name) (reverse comps) (c ∷ [])

none_back : (comps : Design) (name : Text) → component_named comps name ≡ None → component_named (reverse comps) name ≡ None
none_back [] name none = refl
none_back (c ∷ comps) name none = back c comps name ∙ by (bytes_eq c.name name) none (none_back comps name)
  where
    by : (b : Bool) → cond b (Some c) (component_named comps name) ≡ None → (component_named comps name ≡ None → component_named (reverse comps) name ≡ None)
        → option_or (component_named (reverse comps) name) (cond b (Some c) None) ≡ None
    by true is later = absurd (none-some c (sym is))
    by false is later = ap (λ (o : Option Component). option_or o None) (later is)

-- where names differ, the latest of a name is the first
pub found_back : (comps : Design) (name : Text) (found : Component) → AreDistinct (component_names comps) → component_named comps name ≡ Some found → component_named (reverse comps) name ≡ Some found
found_back [] name found distinct is = absurd (none-some found is)
found_back (c ∷ comps) name found distinct is =
    back c comps name ∙ by (bytes_eq c.name name) refl is (λ e. found_back comps name found (later_distinct c.name (component_names comps) distinct) e)
  where
    nowhere : c.name ≡ name → component_named comps name ≡ None
    nowhere same = find_nowhere (λ (d : Component). d.name) comps (component_names comps) name refl (λ there. first_differs c.name (component_names comps) name distinct there same)

    by : (b : Bool) → bytes_eq c.name name ≡ b → cond b (Some c) (component_named comps name) ≡ Some found → (component_named comps name ≡ Some found → component_named (reverse comps) name ≡ Some found)
        → option_or (component_named (reverse comps) name) (cond b (Some c) None) ≡ Some found
    by true here e later =
        ap (λ (o : Option Component). option_or o (Some c)) (none_back comps name (nowhere ((bytes_eq-Decides c.name name).0 here))) ∙ e
    by false there e later = ap (λ (o : Option Component). option_or o None) (later e)
