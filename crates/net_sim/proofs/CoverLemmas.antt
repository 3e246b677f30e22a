-- As many distinct numbers below a bound as the bound are all of them.
use Rattle.std.proofs.Common.{◌≡◌, ℕ, ◌<◌, List, [], ◌∷◌, ◌++◌, Bool, true, false, Some, length, get_or, eqb, refl, ap, ◌∙◌, arith, inl, inr}
use Rattle.std.specs.Prelude.{Contains, slice_get}
use Rattle.std.specs.List.{IsDistinct, list_any}
use Rattle.std.specs.Cmp.{nat_eq_equiv}
use Rattle.std.proofs.lemmas.Bool.Decides.{Decides-eqb}
use Rattle.std.proofs.lemmas.List.{length_push}
use Rattle.std.proofs.lemmas.List.Elements.{Contains-push_cases}
use Rattle.std.proofs.lemmas.Map.Keys.{IsDistinct-from_apart, IsDistinct-push}
use Rattle.std.proofs.lemmas.Map.Steps.{length-le_from_distinct_below}
use Rattle.std.proofs.lemmas.Map.Views.{Contains-from_any}
use Rattle.std.proofs.lemmas.Option.{slice_get-get_or}

found_at : (xs : List ℕ) (q : ℕ) → Contains xs q → (i : ℕ) × (slice_get xs i ≡ Some q)
found_at xs q has = (has.0, slice_get-get_or xs has.0 q has.1 ∙ ap Some has.2)

differ : (a b : ℕ) → (a ≡ b → ⊥) → eqb a b ≡ false
differ a b ne = by (eqb a b) refl
  where
    by : (r : Bool) → eqb a b ≡ r → eqb a b ≡ false
    by true e = absurd (ne ((Decides-eqb a b).0 e))
    by false e = e

module _ (xs : List ℕ) (n : ℕ) (size : length xs ≡ n) (below : (i x : ℕ) → slice_get xs i ≡ Some x → x < n) (once : (i j x : ℕ) → slice_get xs i ≡ Some x → slice_get xs j ≡ Some x → i ≡ j) where
  apart : (i j d : ℕ) → i < j → j < length xs → eqb (get_or xs i d) (get_or xs j d) ≡ false
  apart i j d lt within = differ (get_or xs i d) (get_or xs j d) (λ same.
      let e : i ≡ j = once i j (get_or xs j d) (slice_get-get_or xs i d (omega (arith, lt, within)) ∙ ap Some same) (slice_get-get_or xs j d within) in omega (arith, e, lt))

  pub cover : (q : ℕ) → q < n → (i : ℕ) × (slice_get xs i ≡ Some q)
  cover q lt = by (list_any (eqb q) xs) refl
    where
      by : (r : Bool) → list_any (eqb q) xs ≡ r → (i : ℕ) × (slice_get xs i ≡ Some q)
      by true e = found_at xs q (Contains-from_any (λ x y. (Decides-eqb x y).0) q xs e)
      by false e =
          let distinct : IsDistinct eqb (xs ++ q ∷ []) = IsDistinct-push nat_eq_equiv xs q (IsDistinct-from_apart eqb xs apart) e in
          let bound : (r : ℕ) → list_any (eqb r) (xs ++ q ∷ []) ≡ true → r < n = λ r some.
          elim (Contains-push_cases xs q r (Contains-from_any (λ x y. (Decides-eqb x y).0) r (xs ++ q ∷ []) some)) [
            | inl has ↦ let at = found_at xs r has in below at.0 r at.1
            | inr same ↦ omega (arith, same, lt)
          ] in
          absurd (omega (arith, length-le_from_distinct_below (xs ++ q ∷ []) n distinct bound, length_push xs q, size))
