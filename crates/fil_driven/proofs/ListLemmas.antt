-- Lists: members of mapped and filtered lists, and what a search finds.
use Rattle.std.proofs.Common.{◌≡◌, ◌≢◌, ◌⊎◌, zero, suc, ◌<◌, ◌||◌, Bool, true, false, cond, List, [], ◌∷◌, ◌++◌, length, map, filter, flat_map, find, get_or, Contains, Some, refl, sym, ap, ap₂, subst, ◌∙◌, inl, inr, arith}
use Rattle.std.specs.Prelude.{AllPairs}
use Rattle.std.specs.List.{list_any}
use Rattle.std.proofs.lemmas.Bool.{false≢true}
use Rattle.std.proofs.lemmas.List.{get_or-map, length-map}
use Rattle.std.proofs.lemmas.List.Elements.{Contains-append_right}
use Rattle.std.proofs.lemmas.Option.{none-some, same_Some}
use Rattle.hw_names.specs.Name.{Text, AreDistinct}
use Rattle.fil_share.proofs.ListLemmas.{Contains-here, Contains-there, two_of}
use Rattle.fil_share.proofs.Lookup.{later_distinct}

-- ---- members

contains_none : {X : Type 0} (x : X) → Contains [] x → ⊥
contains_none x has = omega (arith, has.1)

-- the first, or one of the rest
pub first_or_later : {X : Type 0} (y : X) (xs : List X) (x : X) → Contains (y ∷ xs) x → (y ≡ x) ⊎ Contains xs x
first_or_later y xs x (zero, within, same) = inl same
first_or_later y xs x (suc k, within, same) = inr (k, omega (arith, within), same)

pub contains_map : {X Y : Type 0} (f : X → Y) (xs : List X) (x : X) → Contains xs x → Contains (map f xs) (f x)
contains_map f [] x has = absurd (contains_none x has)
contains_map f (y ∷ xs) x has =
    elim (first_or_later y xs x has) [
      | inl same ↦ (zero, omega arith, ap f same)
      | inr later ↦ Contains-there (f y) (map f xs) (f x) (contains_map f xs x later)
    ]

pub from_map : {X Y : Type 0} (f : X → Y) (xs : List X) (y : Y) → Contains (map f xs) y → (x : X) × Contains xs x × (f x ≡ y)
from_map f [] y has = absurd (contains_none y has)
from_map f (x ∷ xs) y has =
    elim (first_or_later (f x) (map f xs) y has) [
      | inl same ↦ (x, Contains-here x xs, same)
      | inr later ↦ let m = from_map f xs y later in (m.0, Contains-there x xs m.0 m.1, m.2)
    ]

pub filtered_has : {X : Type 0} (test : X → Bool) (xs : List X) (x : X) → Contains xs x → test x ≡ true → Contains (filter test xs) x
filtered_has test [] x has passes = absurd (contains_none x has)
filtered_has test (y ∷ xs) x has passes = by (test y) refl (first_or_later y xs x has) (filtered_has test xs x)
  where
    by : (b : Bool) → test y ≡ b → (y ≡ x) ⊎ Contains xs x → (Contains xs x → test x ≡ true → Contains (filter test xs) x) → Contains (cond b (y ∷ filter test xs) (filter test xs)) x
    by true is (inl same) rest = (0, omega arith, same)
    by true is (inr later) rest = Contains-there y (filter test xs) x (rest later passes)
    by false is (inl same) rest = absurd (false≢true (sym is ∙ ap test same ∙ passes))
    by false is (inr later) rest = rest later passes

-- functions that agree on the elements of a list
pub map_agree : {X Y : Type 0} (f g : X → Y) (xs : List X) → ((x : X) → f x ≡ g x) → map f xs ≡ map g xs
map_agree f g [] same = refl
map_agree f g (x ∷ xs) same = ap₂ ◌∷◌ (same x) (map_agree f g xs same)

pub flat_map_agree : {X Y Z : Type 0} (f : Y → List Z) (g : X → Y) (h : X → List Z) (xs : List X) → ((x : X) → Contains xs x → f (g x) ≡ h x) → flat_map f (map g xs) ≡ flat_map h xs
flat_map_agree f g h [] same = refl
flat_map_agree f g h (x ∷ xs) same =
    ap₂ ◌++◌ (same x (Contains-here x xs)) (flat_map_agree f g h xs (λ y has. same y (Contains-there x xs y has)))

-- what holds of each two of a mapped list
pub pairs_unmapped : {X Y : Type 0} (R : Y → Y → Type 0) (f : X → Y) (xs : List X) → AllPairs R (map f xs) → AllPairs (λ a b. R (f a) (f b)) xs
pairs_unmapped R f xs all i j d less within =
    let size = length-map xs f in
    let i_in : i < length xs = omega arith in
    subst (λ x. R x (f (get_or xs j d))) (get_or-map f xs i d (f d) i_in)
    (subst (λ y. R (get_or (map f xs) i (f d)) y) (get_or-map f xs j d (f d) within) (all i j (f d) less (omega arith)))

-- ---- names

pub first_differs : (name : Text) (names : List Text) (other : Text) → AreDistinct (name ∷ names) → Contains names other → name ≡ other → ⊥
first_differs name names other distinct (k, within, at) same = distinct 0 (suc k) other (omega arith) (omega (arith, within)) (same ∙ sym at)

-- no name of the first is one of the second
pub apart_joined : (xs ys : List Text) (name : Text) → AreDistinct (xs ++ ys) → Contains xs name → Contains ys name → ⊥
apart_joined [] ys name distinct left right = contains_none name left
apart_joined (x ∷ xs) ys name distinct left right =
    elim (first_or_later x xs name left) [
      | inl same ↦ first_differs x (xs ++ ys) name distinct (Contains-append_right xs ys name right) same
      | inr later ↦ apart_joined xs ys name (later_distinct x (xs ++ ys) distinct) later right
    ]

-- elements of one name are one
pub same_element : {X : Type 0} (name_of : X → Text) (xs : List X) (x y : X) → AreDistinct (map name_of xs) → Contains xs x → Contains xs y → name_of x ≡ name_of y → x ≡ y
same_element {X} name_of xs x y distinct has_x has_y same =
    let R : X → X → Type 0 = λ a b. name_of a ≢ name_of b in
    elim (two_of R xs x y (pairs_unmapped (λ (a b : Text). a ≢ b) name_of xs distinct) has_x has_y) [
      | inl one ↦ one
      | inr (inl differ) ↦ absurd (differ same)
      | inr (inr differ) ↦ absurd (differ (sym same))
    ]

-- ---- searches

module _ {X Y : Type 0} (test : Y → Bool) (f : X → Y) where
  -- the one element that passes
  pub find_one : (xs : List X) (x : X) → Contains xs x → test (f x) ≡ true → ((y : X) → Contains xs y → test (f y) ≡ true → y ≡ x) → find test (map f xs) ≡ Some (f x)
  find_one [] x has is only = absurd (contains_none x has)
  find_one (y ∷ xs) x has is only = by (test (f y)) refl (first_or_later y xs x has) (λ later. find_one xs x later is (λ z there. only z (Contains-there y xs z there)))
    where
      by : (b : Bool) → test (f y) ≡ b → (y ≡ x) ⊎ Contains xs x → (Contains xs x → find test (map f xs) ≡ Some (f x)) → cond b (Some (f y)) (find test (map f xs)) ≡ Some (f x)
      by true here one rest = ap (λ z. Some (f z)) (only y (Contains-here y xs) here)
      by false here (inl same) rest = absurd (false≢true (sym here ∙ ap (λ z. test (f z)) same ∙ is))
      by false here (inr later) rest = rest later

  -- what is found is an element that passes
  pub find_some : (xs : List X) (y : Y) → find test (map f xs) ≡ Some y → (x : X) × Contains xs x × (f x ≡ y) × (test (f x) ≡ true)
  find_some [] y is = absurd (none-some y is)
  find_some (x ∷ xs) y is = by (test (f x)) refl is (find_some xs y)
    where
      by : (b : Bool) → test (f x) ≡ b → cond b (Some (f x)) (find test (map f xs)) ≡ Some y → (find test (map f xs) ≡ Some y → (z : X) × Contains xs z × (f z ≡ y) × (test (f z) ≡ true))
          → (z : X) × Contains (x ∷ xs) z × (f z ≡ y) × (test (f z) ≡ true)
      by true here is rest = (x, Contains-here x xs, same_Some (f x) y is, here)
      by false here is rest = let m = rest is in (m.0, Contains-there x xs m.0 m.1, m.2, m.3)

  -- some element passes
  pub any_has : (xs : List X) (x : X) → Contains xs x → test (f x) ≡ true → list_any test (map f xs) ≡ true
  any_has [] x has is = absurd (contains_none x has)
  any_has (y ∷ xs) x has is = by (test (f y)) refl (first_or_later y xs x has) (λ later. any_has xs x later is)
    where
      by : (b : Bool) → test (f y) ≡ b → (y ≡ x) ⊎ Contains xs x → (Contains xs x → list_any test (map f xs) ≡ true) → (b || list_any test (map f xs)) ≡ true
      by true here one rest = refl
      by false here (inl same) rest = absurd (false≢true (sym here ∙ ap (λ z. test (f z)) same ∙ is))
      by false here (inr later) rest = rest later

  pub from_any : (xs : List X) → list_any test (map f xs) ≡ true → (x : X) × Contains xs x × (test (f x) ≡ true)
  from_any [] is = absurd (false≢true is)
  from_any (x ∷ xs) is = by (test (f x)) refl is (from_any xs)
    where
      by : (b : Bool) → test (f x) ≡ b → (b || list_any test (map f xs)) ≡ true → (list_any test (map f xs) ≡ true → (z : X) × Contains xs z × (test (f z) ≡ true)) → (z : X) × Contains (x ∷ xs) z × (test (f z) ≡ true)
      by true here is rest = (x, Contains-here x xs, here)
      by false here is rest = let m = rest is in (m.0, Contains-there x xs m.0 m.1, m.2)
