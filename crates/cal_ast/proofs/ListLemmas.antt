-- Lists: elements and their places, what is found, and what holds of each two.
use Rattle.std.proofs.Common.{◌≡◌, ◌⊎◌, inl, inr, ℕ, zero, suc, ◌+◌, ◌<◌, List, [], ◌∷◌, ◌++◌, length, map, get_or, Bool, true, false, Some, refl, sym, ap, ◌∙◌, subst, arith}
use Rattle.std.specs.Prelude.{AllPairs, Contains, find, flat_map, slice_get, if◌then◌else◌}
use Rattle.std.proofs.lemmas.List.Elements.{Contains-append_left, Contains-append_right, Contains-append_cases}
use Rattle.std.proofs.lemmas.List.{get_or-map, length-map, length-append, get_or_default, get_or_append_left, get_or-append-add}
use Rattle.std.proofs.lemmas.Option.{slice_get_within, get_or_from_slice_get, slice_get-get_or}

pub Contains-here : {X : Type 0} (x : X) (xs : List X) → Contains (x ∷ xs) x
Contains-here x xs = (0, omega arith, refl)

pub Contains-there : {X : Type 0} (x : X) (xs : List X) (y : X) → Contains xs y → Contains (x ∷ xs) y
Contains-there x xs y has = (suc has.0, omega (arith, has.1), has.2)

-- an element has a place, and stands there
pub place_of : {X : Type 0} (xs : List X) (x : X) → Contains xs x → (k : ℕ) × (slice_get xs k ≡ Some x)
place_of xs x has = (has.0, slice_get-get_or xs has.0 x has.1 ∙ ap Some has.2)

pub Contains-at : {X : Type 0} (xs : List X) (k : ℕ) (x : X) → slice_get xs k ≡ Some x → Contains xs x
Contains-at xs k x at = (k, slice_get_within xs k x at, get_or_from_slice_get xs k x x at)

pub Contains-map : {X Y : Type 0} (f : X → Y) (xs : List X) (x : X) → Contains xs x → Contains (map f xs) (f x)
Contains-map f xs x has =
    (has.0, omega (arith, has.1, length-map xs f), get_or-map f xs has.0 x (f x) has.1 ∙ ap f has.2)

pub Contains-none : {X : Type 0} (x : X) → Contains [] x → ⊥
Contains-none x has = omega (arith, has.1)

pub Contains-cases_first : {X : Type 0} (y : X) (xs : List X) (x : X) → Contains (y ∷ xs) x → (y ≡ x) ⊎ Contains xs x
Contains-cases_first y xs x (zero, within, same) = inl same
Contains-cases_first y xs x (suc k, within, same) = inr (k, omega (arith, within), same)

pub Contains-from_map : {X Y : Type 0} (f : X → Y) (xs : List X) (y : Y) → Contains (map f xs) y → (x : X) × Contains xs x × (f x ≡ y)
Contains-from_map f [] y has = absurd (Contains-none y has)
Contains-from_map f (x ∷ xs) y has =
    elim (Contains-cases_first (f x) (map f xs) y has) [
      | inl same ↦ (x, Contains-here x xs, same)
      | inr there ↦ (let r = Contains-from_map f xs y there in (r.0, Contains-there x xs r.0 r.1, r.2))
    ]

pub Contains-flat_map : {X Y : Type 0} (f : X → List Y) (xs : List X) (x : X) (y : Y) → Contains xs x → Contains (f x) y → Contains (flat_map f xs) y
Contains-flat_map f [] x y has here = absurd (Contains-none x has)
Contains-flat_map f (z ∷ xs) x y has here =
    elim (Contains-cases_first z xs x has) [
      | inl same ↦ Contains-append_left (f z) (flat_map f xs) y (subst (λ w. Contains (f w) y) (sym same) here)
      | inr there ↦ Contains-append_right (f z) (flat_map f xs) y (Contains-flat_map f xs x y there here)
    ]

pub Contains-from_flat_map : {X Y : Type 0} (f : X → List Y) (xs : List X) (y : Y) → Contains (flat_map f xs) y → (x : X) × Contains xs x × Contains (f x) y
Contains-from_flat_map f [] y has = absurd (Contains-none y has)
Contains-from_flat_map f (x ∷ xs) y has =
    elim (Contains-append_cases (f x) (flat_map f xs) y has) [
      | inl here ↦ (x, Contains-here x xs, here)
      | inr there ↦ (let r = Contains-from_flat_map f xs y there in (r.0, Contains-there x xs r.0 r.1, r.2))
    ]

-- what is found passes the test, and is an element
pub find-Some : {X : Type 0} (test : X → Bool) (xs : List X) (x : X) → find test xs ≡ Some x → Contains xs x × (test x ≡ true)
find-Some test [] x found = absurd (cc)
find-Some test (y ∷ ys) x found = by (find-Some test ys x) (test y) refl found
  where
    by : (find test ys ≡ Some x → Contains ys x × (test x ≡ true)) → (b : Bool) → test y ≡ b → (if b then Some y else find test ys) ≡ Some x → Contains (y ∷ ys) x × (test x ≡ true)
    by later true e same =
        let is : y ≡ x = cc in
        (subst (λ z. Contains (y ∷ ys) z) is (Contains-here y ys), ap test (sym is) ∙ e)
    by later false e same = let r = later same in (Contains-there y ys x r.0, r.1)

-- an element that passes the test, where none before it does, is found
pub find-at : {X : Type 0} (test : X → Bool) (xs : List X) (k : ℕ) (x : X) → slice_get xs k ≡ Some x → test x ≡ true → ((j : ℕ) (y : X) → j < k → slice_get xs j ≡ Some y → test y ≡ false) → find test xs ≡ Some x
find-at test [] k x at passes before = absurd (cc)
find-at test (y ∷ ys) zero x at passes before =
    let is : y ≡ x = cc in
    rw (ap test is ∙ passes) at
find-at test (y ∷ ys) (suc k) x at passes before =
    rw (before 0 y (omega arith) refl) (find-at test ys k x at passes (λ j z less there. before (suc j) z (omega (arith, less)) there))

-- what holds of each two holds of an element and a later one
pub AllPairs-at : {X : Type 0} (R : X → X → Type 0) (xs : List X) → AllPairs R xs → (j k : ℕ) (x y : X) → j < k → slice_get xs j ≡ Some x → slice_get xs k ≡ Some y → R x y
AllPairs-at R xs all j k x y less at_j at_k =
    subst (λ b. R x b) (get_or_from_slice_get xs k y x at_k)
    (subst (λ a. R a (get_or xs k x)) (get_or_from_slice_get xs j x x at_j) (all j k x less (slice_get_within xs k y at_k)))

-- an element of the first list and one of the second are apart, where each two are in the whole
pub AllPairs-across : {X : Type 0} (R : X → X → Type 0) (xs ys : List X) → AllPairs R (xs ++ ys) → (x y : X) → Contains xs x → Contains ys y → R x y
AllPairs-across R xs ys all x y has_x has_y =
    subst (λ b. R x b) (get_or-append-add xs ys has_y.0 x ∙ get_or_default ys has_y.0 x y has_y.1 ∙ has_y.2)
    (subst (λ a. R a (get_or (xs ++ ys) (length xs + has_y.0) x)) (get_or_append_left xs ys x has_x.0 has_x.1 ∙ has_x.2) (all has_x.0 (length xs + has_y.0) x (omega (arith, has_x.1)) (omega (arith, has_y.1, length-append xs ys))))
