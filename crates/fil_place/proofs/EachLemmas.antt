-- What holds of each element of a list and its place, as far as a loop has come.
use Rattle.std.proofs.Common.{◌≡◌, ℕ, ◌+◌, ◌<◌, ◌≤◌, ◌⊎◌, inl, inr, List, length, get_or, slice_get, Some, sym, ap, subst, ◌∙◌, arith}
use Rattle.std.proofs.lemmas.Bool.{cases_lt}
use Rattle.std.proofs.lemmas.Option.{same_Some, slice_get_within, slice_get-get_or}

-- the element that a loop is at
pub item_at : {X : Type 0} (xs listed : List X) (i : ℕ) (x : X) → listed ≡ xs → i < length listed → x ≡ get_or listed i x → slice_get xs i ≡ Some x
item_at xs listed i x are within is = ap (λ (ys : List _). slice_get ys i) (sym are) ∙ slice_get-get_or listed i x within ∙ ap Some (sym is)

module _ {X : Type 0} (P : ℕ → X → Type 0) (xs : List X) where
  abbrev pub EachBelow : ℕ → Type 0
  EachBelow n = (k : ℕ) (x : X) → k < n → slice_get xs k ≡ Some x → P k x

  pub each_more : (n : ℕ) (x : X) → slice_get xs n ≡ Some x → EachBelow n → P n x → EachBelow (n + 1)
  each_more n x here below holds k y within at = by (cases_lt k n)
    where
      by : (k < n) ⊎ (n ≤ k) → P k y
      by (inl earlier) = below k y earlier at
      by (inr later) =
          let same : n ≡ k = omega arith in
          let same_element = same_Some x y (sym here ∙ ap (slice_get xs) same ∙ at) in
          let at_place : P k x = subst (λ (i : ℕ). P i x) same holds in
          subst (λ (z : X). P k z) same_element at_place

  pub each_all : (n : ℕ) → length xs ≤ n → EachBelow n → (k : ℕ) (x : X) → slice_get xs k ≡ Some x → P k x
  each_all n all below k x at = let within = slice_get_within xs k x at in below k x (omega arith) at
