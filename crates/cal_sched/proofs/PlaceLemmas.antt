-- Elements by their places in lists.
use Rattle.std.proofs.Common.{◌≡◌, ◌⊎◌, inl, inr, ℕ, zero, suc, ◌+◌, ◌<◌, List, [], ◌∷◌, ◌++◌, length, map, get_or, All, Some, option_map, refl, sym, ap, ◌∙◌, subst, arith}
use Rattle.std.specs.Prelude.{slice_get}
use Rattle.std.proofs.lemmas.Option.{slice_get-get_or, slice_get-map}
use Rattle.cal_ast.proofs.SideLemmas.{some_found}

module _ {X : Type 0} where
  -- what holds of each element at its place holds of all
  pub all_places : (P : X → Type 0) (xs : List X) → ((k : ℕ) (x : X) → slice_get xs k ≡ Some x → P x) → All P xs
  all_places P xs each k d within = each k (get_or xs k d) (slice_get-get_or xs k d within)

  -- an element of two lists is in the first, or as far into the second as it is past the first
  pub append_places : (xs ys : List X) (k : ℕ) (x : X) → slice_get (xs ++ ys) k ≡ Some x
      → (slice_get xs k ≡ Some x) ⊎ ((m : ℕ) × (k ≡ length xs + m) × (slice_get ys m ≡ Some x))
  append_places [] ys k x at = inr (k, omega arith, at)
  append_places (y ∷ xs) ys zero x at = inl at
  append_places (y ∷ xs) ys (suc k) x at = elim (append_places xs ys k x at) [
    | inl here ↦ inl here
    | inr there ↦ inr (there.0, omega (arith, there.1), there.2)
  ]

  pub place_right : (xs ys : List X) (k m : ℕ) (x : X) → k ≡ length xs + m → slice_get ys m ≡ Some x → slice_get (xs ++ ys) k ≡ Some x
  place_right [] ys k m x is at = let same : m ≡ k = omega (arith, is) in subst (λ n. slice_get ys n ≡ Some x) same at
  place_right (y ∷ xs) ys zero m x is at = absurd (omega (arith, is))
  place_right (y ∷ xs) ys (suc k) m x is at = place_right xs ys k m x (omega (arith, is)) at

  pub before_last : (xs : List X) (y : X) (k : ℕ) → k < length xs → slice_get (xs ++ y ∷ []) k ≡ slice_get xs k
  before_last [] y k within = absurd (omega (arith, within))
  before_last (x ∷ xs) y zero within = refl
  before_last (x ∷ xs) y (suc k) within = before_last xs y k (omega (arith, within))

module _ {X Y : Type 0} (f : X → Y) where
  pub place_map : (xs : List X) (k : ℕ) (x : X) → slice_get xs k ≡ Some x → slice_get (map f xs) k ≡ Some (f x)
  place_map xs k x at = slice_get-map f xs k ∙ ap (option_map f) at

  pub place_from_map : (xs : List X) (k : ℕ) (y : Y) → slice_get (map f xs) k ≡ Some y → (x : X) × (slice_get xs k ≡ Some x) × (f x ≡ y)
  place_from_map xs k y at = some_found f (slice_get xs k) y (sym (slice_get-map f xs k) ∙ at)

pub map_both : {X Y Z : Type 0} (f : Y → Z) (g : X → Y) (xs : List X) → map f (map g xs) ≡ map (λ x. f (g x)) xs
map_both f g [] = refl
map_both f g (x ∷ xs) = ap (λ zs. f (g x) ∷ zs) (map_both f g xs)
