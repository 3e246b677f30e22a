-- Lists of distinct numbers below a bound.
use Rattle.std.proofs.Common.{◌≡◌, ℕ, zero, suc, ◌+◌, ◌-◌, ◌<◌, ◌≤◌, ◌⊎◌, inl, inr, List, [], ◌∷◌, ◌++◌, Bool, true, false, length, get_or, eqb, refl, sym, ap, ◌∙◌, arith}
use Rattle.std.specs.Prelude.{Contains, ◌==◌, remove}
use Rattle.std.specs.List.{list_any}
use Rattle.std.specs.Cmp.{nat_eq_equiv}
use Rattle.std.proofs.lemmas.Bool.{cases_eq, cases_lt}
use Rattle.std.proofs.lemmas.Bool.Decides.{Decides-eqb}
use Rattle.std.proofs.lemmas.List.{get_or_default}
use Rattle.std.proofs.lemmas.List.Edits.{length-remove, get_or-remove_below, get_or-remove_above}
use Rattle.std.proofs.lemmas.Map.Keys.{IsDistinct-from_apart}
use Rattle.std.proofs.lemmas.Map.Steps.{length-le_from_distinct_below}
use Rattle.std.proofs.lemmas.Map.Views.{Contains-from_any, list_any-from_Contains}
use Rattle.hw_graph.proofs.SearchLemmas.{contained_at, contains_at, pushed, pushed_last}
use Rattle.std.proofs.lemmas.List.{length_push}

differ : (a b : ℕ) → (a ≡ b → ⊥) → (a == b) ≡ false
differ a b ne = by (a == b) refl
  where
    by : (r : Bool) → (a == b) ≡ r → (a == b) ≡ false
    by true e = absurd (ne ((Decides-eqb a b).0 e))
    by false e = e

-- distinct numbers below n are at most n
pub at_most : (xs : List ℕ) (n : ℕ) → ((i : ℕ) → i < length xs → get_or xs i 0 < n) → ((i j : ℕ) → i < length xs → j < length xs → get_or xs i 0 ≡ get_or xs j 0 → i ≡ j) → length xs ≤ n
at_most xs n below once = length-le_from_distinct_below xs n (IsDistinct-from_apart eqb xs apart) in_range
  where
    apart : (i j d : ℕ) → i < j → j < length xs → eqb (get_or xs i d) (get_or xs j d) ≡ false
    apart i j d lt within = differ (get_or xs i d) (get_or xs j d) (λ same. let e = once i j (omega (arith, lt, within)) within (get_or_default xs i 0 d (omega (arith, lt, within)) ∙ same ∙ get_or_default xs j d 0 within) in omega (arith, e, lt))

    in_range : (q : ℕ) → list_any (eqb q) xs ≡ true → q < n
    in_range q some =
        let has = Contains-from_any (λ x y. (Decides-eqb x y).0) q xs some in
        omega (arith, below has.0 has.1, contained_at xs q has)

-- a number is in a list or not
pub is_in : (xs : List ℕ) (q : ℕ) → Contains xs q ⊎ (Contains xs q → ⊥)
is_in xs q = by (list_any (eqb q) xs) refl
  where
    by : (r : Bool) → list_any (eqb q) xs ≡ r → Contains xs q ⊎ (Contains xs q → ⊥)
    by true e = inl (Contains-from_any (λ x y. (Decides-eqb x y).0) q xs e)
    by false e = inr (λ has. let some = list_any-from_Contains nat_eq_equiv q xs has in cc)

-- n distinct numbers below n are all of them
pub all_of_them : (xs : List ℕ) (n : ℕ) → length xs ≡ n → ((i : ℕ) → i < length xs → get_or xs i 0 < n) → ((i j : ℕ) → i < length xs → j < length xs → get_or xs i 0 ≡ get_or xs j 0 → i ≡ j) → (q : ℕ) → q < n → Contains xs q
all_of_them xs n size below once q lt = elim (is_in xs q) [
  | inl has ↦ has
  | inr none ↦ absurd (omega (arith, size, at_most (xs ++ q ∷ []) n (below' none) (once' none), length_push xs q))
]
  where
    below' : (Contains xs q → ⊥) → (i : ℕ) → i < length (xs ++ q ∷ []) → get_or (xs ++ q ∷ []) i 0 < n
    below' none i within = elim (cases_lt i (length xs)) [
      | inl before ↦ rw (pushed xs q i before) (below i before)
      | inr last ↦ rw (pushed_last xs q i (omega (arith, within, last, length_push xs q))) lt
    ]

    fresh : (Contains xs q → ⊥) → (i : ℕ) → i < length xs → get_or xs i 0 ≡ q → ⊥
    fresh none i within e = none (contains_at xs i q within e)

    once' : (Contains xs q → ⊥) → (i j : ℕ) → i < length (xs ++ q ∷ []) → j < length (xs ++ q ∷ []) → get_or (xs ++ q ∷ []) i 0 ≡ get_or (xs ++ q ∷ []) j 0 → i ≡ j
    once' none i j wi wj same = elim (cases_lt i (length xs)) [
      | inl before ↦ elim (cases_lt j (length xs)) [
        | inl before' ↦ once i j before before' (sym (pushed xs q i before) ∙ same ∙ pushed xs q j before')
        | inr last' ↦ absurd (fresh none i before (sym (pushed xs q i before) ∙ same ∙ pushed_last xs q j (omega (arith, wj, last', length_push xs q))))
      ]
      | inr last ↦ elim (cases_lt j (length xs)) [
        | inl before' ↦ absurd (fresh none j before' (sym (pushed xs q j before') ∙ sym same ∙ pushed_last xs q i (omega (arith, wi, last, length_push xs q))))
        | inr last' ↦ omega (arith, wi, wj, last, last', length_push xs q)
      ]
    ]

-- a list with all numbers below n has at least n
pub at_least : (n : ℕ) (xs : List ℕ) → ((q : ℕ) → q < n → Contains xs q) → n ≤ length xs
at_least zero xs all = omega arith
at_least (suc n) xs all =
    let has = all n (omega arith) in
    let k = has.0 in
    let rest = at_least n (remove xs k) (λ q lt. kept k has.1 (contained_at xs n has) q lt (all q (omega (arith, lt)))) in
    omega (arith, rest, length-remove xs k has.1)
  where
    kept : (k : ℕ) → k < length xs → get_or xs k 0 ≡ n → (q : ℕ) → q < n → Contains xs q → Contains (remove xs k) q
    kept k within at q lt has = elim (cases_lt has.0 k) [
      | inl below ↦ contains_at (remove xs k) has.0 q (omega (arith, below, within, length-remove xs k within)) (get_or-remove_below xs k 0 has.0 below within ∙ contained_at xs q has)
      | inr above ↦
          let ne : k < has.0 = elim (cases_eq has.0 k) [
            | inl same ↦ let e : n ≡ q = sym at ∙ ap (λ i. get_or xs i 0) (sym same) ∙ contained_at xs q has in absurd (omega (arith, e, lt))
            | inr other ↦ omega (arith, above, other)
          ] in
          let back : has.0 - 1 + 1 ≡ has.0 = omega (arith, ne) in
          contains_at (remove xs k) (has.0 - 1) q (omega (arith, ne, within, has.1, length-remove xs k within))
          (get_or-remove_above xs k 0 (has.0 - 1) (omega (arith, ne)) within ∙ ap (λ i. get_or xs i 0) back ∙ contained_at xs q has)
    ]
