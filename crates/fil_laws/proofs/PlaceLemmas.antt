-- Places of lists whose elements are apart in pairs.
use Rattle.std.proofs.Common.{◌≡◌, ℕ, ◌<◌, List, get_or, slice_get, Contains, Some, ap, subst, ◌∙◌, inl, inr, arith}
use Rattle.std.specs.Prelude.{AllPairs}
use Rattle.std.proofs.lemmas.Bool.{cases_lt}
use Rattle.std.proofs.lemmas.Option.{get_or_from_slice_get, slice_get-get_or, slice_get_within}

-- what holds of each two holds of what stands at two places
pub pair_at : {X : Type 0} (R : X → X → Type 0) (xs : List X) (i j : ℕ) (a b : X) → AllPairs R xs → i < j → slice_get xs i ≡ Some a → slice_get xs j ≡ Some b → R a b
pair_at {X} R xs i j a b all less at_i at_j =
    subst (λ (y : X). R a y) (get_or_from_slice_get xs j b a at_j)
    (subst (λ (x : X). R x (get_or xs j a)) (get_or_from_slice_get xs i a a at_i) (all i j a less (slice_get_within xs j b at_j)))

-- places whose elements are not in the relation, either way, are one
pub one_place : {X : Type 0} (R : X → X → Type 0) (xs : List X) (i j : ℕ) (a b : X) → AllPairs R xs → slice_get xs i ≡ Some a → slice_get xs j ≡ Some b → ¬ R a b → ¬ R b a → i ≡ j
one_place R xs i j a b all at_i at_j first second = elim (cases_lt i j) [
  | inl less ↦ absurd (first (pair_at R xs i j a b all less at_i at_j))
  | inr ge ↦ elim (cases_lt j i) [
    | inl more ↦ absurd (second (pair_at R xs j i b a all more at_j at_i))
    | inr le ↦ omega (arith, ge, le)
  ]
]

-- the place of an element
pub place_of : {X : Type 0} (xs : List X) (x : X) → Contains xs x → (k : ℕ) × (slice_get xs k ≡ Some x)
place_of xs x (k, within, is) = (k, slice_get-get_or xs k x within ∙ ap Some is)
