-- Places of names in a list of names that differ.
use Rattle.std.proofs.Common.{◌≡◌, ℕ, ◌<◌, ◌≤◌, nat_lt, Bool, true, false, List, [], ◌∷◌, ◌++◌, ◌+◌, map, length, get_or, slice_get, take, Contains, Option, Some, None, IsSome, IfSome, MatchOption, All, is_some, slice_index, ◌↔◌, refl, subst, sym, ap, ◌∙◌, arith}
use Rattle.std.specs.Str.{bytes_eq}
use Rattle.std.specs.Cmp.Lexicographic.{nat_list_eq_equiv}
use Rattle.std.proofs.lemmas.List.Folds.{list_any_none}
use Rattle.std.proofs.lemmas.List.Sums.{position_or_len_is, fails_before_first}
use Rattle.std.proofs.lemmas.Map.Views.{Contains-from_any, list_any-from_Contains}
use Rattle.std.proofs.lemmas.Option.{slice_get_within, get_or_from_slice_get}
use Rattle.std.proofs.lemmas.Slice.Eq.{bytes_eq-Decides}
use Rattle.std.proofs.lemmas.Bool.{false≢true, ltb-true, ltb-false}
use Rattle.std.proofs.lemmas.List.{length-take-le, get_or-take, get_or-map, length-map, take_more}
use Rattle.hw_names.specs.Name.{Text, AreDistinct}
use Rattle.hw_names.specs.declared.names.NameId.{NameId}
use Rattle.stim_read.specs.Parts.{is_one_of}
use Rattle.stim_read.specs.CycleRules.{place_in}

by_false : (b : Bool) → (b ≡ true → ⊥) → b ≡ false
by_false true never = absurd (never refl)
by_false false never = refl

pub is_there : (names : List Text) (name : Text) → Contains names name → is_one_of names name ≡ true
is_there names name there = list_any-from_Contains nat_list_eq_equiv name names there

pub is_missing : (names : List Text) (name : Text) → (Contains names name → ⊥) → is_one_of names name ≡ false
is_missing names name missing = by_false _ (λ e. missing (Contains-from_any (λ x y. (bytes_eq-Decides x y).0) name names e))

pub place_is : (names : List Text) (i : ℕ) (name : Text) → AreDistinct names → slice_get names i ≡ Some name → i ≡ place_in names name
place_is names i name distinct found =
    let within = slice_get_within names i name found in
    let at = get_or_from_slice_get names i name name found in
    sym (position_or_len_is (bytes_eq name) names i name (omega (arith, within))
    (λ k below. by_false _ (λ same. distinct k i name below within (sym ((bytes_eq-Decides name (get_or names k name)).0 same) ∙ sym at)))
    (λ _. (bytes_eq-Decides name (get_or names i name)).1 (sym at)))

-- what a look-up that finds nothing says
pub missing_by : (o : Option NameId) (names : List Text) (name : Text) → o ≡ None → (IsSome o ↔ Contains names name) → is_one_of names name ≡ false
missing_by None names name is iff = is_missing names name (λ there. false≢true (iff.1 there))
missing_by (Some id) names name is iff = cc

-- what a look-up that finds a name says
pub record IsPlace (names : List Text) (name : Text) (place : ℕ) : Type 0 where
  pub there : is_one_of names name ≡ true
  pub is : place ≡ place_in names name
  pub within : place < length names

pub found_by : (o : Option NameId) (id : NameId) (names : List Text) (name : Text) → o ≡ Some id → IfSome o (λ id. slice_get names id.0 ≡ Some name) → (IsSome o ↔ Contains names name) → AreDistinct names → IsPlace names name id.0
found_by None id names name is found iff distinct = cc
found_by (Some other) id names name is found iff distinct =
    let same : other ≡ id = cc in
    let at : slice_get names id.0 ≡ Some name = subst (λ (i : NameId). slice_get names i.0 ≡ Some name) same found in
    record {
      there = is_there names name (iff.0 refl);
      is = place_is names id.0 name distinct at;
      within = slice_get_within names id.0 name at;
    }

-- a name is none of those before it
pub none_before : (names : List Text) (i : ℕ) (name : Text) → AreDistinct names → i < length names → get_or names i name ≡ name → Contains (take i names) name → ⊥
none_before names i name distinct within at (k, below, same) =
    let short : k < i = omega (arith, below, length-take-le i names (omega (arith, within))) in
    distinct k i name short within (sym (get_or-take i names k name short) ∙ same ∙ sym at)

name_at : {X : Type 0} (f : X → Text) (xs : List X) (i : ℕ) (x : X) (name : Text) → i < length xs → x ≡ get_or xs i x → name ≡ f x → get_or (map f xs) i name ≡ name
name_at f xs i x name within is same = get_or-map f xs i x name within ∙ ap f (sym is) ∙ sym same

pub clash : {X : Type 0} (f : X → Text) (xs : List X) (i : ℕ) (x : X) (name : Text) (before : List Text) → AreDistinct (map f xs) → i < length xs → x ≡ get_or xs i x → name ≡ f x → before ≡ take i (map f xs) → Contains before name → ⊥
clash f xs i x name before distinct within is same so_far there =
    none_before (map f xs) i name distinct (omega (arith, length-map xs f, within)) (name_at f xs i x name within is same) (subst (λ (ns : List Text). Contains ns name) so_far there)

pub named : {X : Type 0} (f : X → Text) (xs : List X) (i : ℕ) (x : X) (name : Text) (before after : List Text) → i < length xs → x ≡ get_or xs i x → name ≡ f x → before ≡ take i (map f xs) → after ≡ before ++ name ∷ [] → after ≡ take (i + 1) (map f xs)
named f xs i x name before after within is same so_far grown =
    grown ∙ ap (λ (ns : List Text). ns ++ name ∷ []) so_far ∙ ap (λ n. take i (map f xs) ++ n ∷ []) (sym (name_at f xs i x name within is same))
    ∙ sym (take_more (map f xs) i name (omega (arith, length-map xs f, within)))

-- a name is known exactly where it has a place
pub known_as : (names : List Text) (name : Text) (o : Option ℕ) → MatchOption o (is_one_of names name ≡ false) (λ place. (is_one_of names name ≡ true) × (place ≡ place_in names name) × (place < length names)) → is_one_of names name ≡ is_some o
known_as names name None h = h
known_as names name (Some place) h = h.0

pub place_within : {X : Type 0} (f : X → Text) (xs : List X) (names : List Text) (i : ℕ) → names ≡ map f xs → i < length names → i < length xs
place_within f xs names i same within = omega (arith, ap length same, length-map xs f, within)

-- a field of what has a name's place
pub field_at : {X : Type 0} (f : X → Text) (h : X → ℕ) (xs : List X) (names : List Text) (name read : Text) (i : ℕ) (x : X) → names ≡ map f xs → read ≡ name → i ≡ place_in names read → i < length xs → x ≡ get_or xs i x
    → slice_index (map h xs) (place_in (map f xs) name) ≡ h x
field_at f h xs names name read i x same spelled at within is =
    let there : i ≡ place_in (map f xs) name = at ∙ (λ j. place_in (same j) (spelled j)) in
    ap (slice_index (map h xs)) (sym there) ∙ get_or-map h xs i x 0 within ∙ ap h (sym is)

pub all_hold : {X : Type 0} (P : X → Type 0) (xs : List X) (i : ℕ) (x : X) → All P xs → i < length xs → x ≡ get_or xs i x → P x
all_hold P xs i x all within is = subst P (sym is) (all i x within)

-- a name that has no place has the number past the end
pub place_past : (names : List Text) (name : Text) → is_one_of names name ≡ false → place_in names name ≡ length names
place_past names name missing =
    position_or_len_is (bytes_eq name) names (length names) name (omega arith)
    (λ k below. by_false _ (λ same. false≢true (sym missing ∙ is_there names name (k, below, sym ((bytes_eq-Decides name (get_or names k name)).0 same)))))
    (λ within. absurd (omega arith))

-- a known name has a place among the names
pub place_known : (names : List Text) (name : Text) → is_one_of names name ≡ true → place_in names name < length names
place_known names name known = by (nat_lt (place_in names name) (length names)) refl where
  by : (b : Bool) → nat_lt (place_in names name) (length names) ≡ b → place_in names name < length names
  by true is = ltb-true (place_in names name) (length names) is
  by false is =
      let past : length names ≤ place_in names name = ltb-false (place_in names name) (length names) is in
      absurd (false≢true (sym (list_any_none (bytes_eq name) names (λ k d within. fails_before_first (bytes_eq name) names k d (omega (arith, within, past)))) ∙ known))
