-- What a loop has made of a list after one more element.
use Rattle.std.proofs.Common.{◌≡◌, ℕ, zero, suc, ◌+◌, ◌<◌, Bool, List, [], ◌∷◌, ◌++◌, length, map, filter, get_or, take, Option, ap, refl, sym, ◌∙◌, append_assoc, arith}
use Rattle.std.specs.List.{filter_map, flat_map}
use Rattle.std.proofs.lemmas.Grind.{flat_map-append}
use Rattle.std.proofs.lemmas.List.{append-nil, map-append}
use Rattle.std.proofs.lemmas.List.Elements.{filter-append, filter_map-append}
use Rattle.net_flat.proofs.StandLemmas.{take_one}

-- an element by a default is that by itself
pub at_place : {X : Type 0} (xs : List X) (i : ℕ) (d : X) → i < length xs → get_or xs i d ≡ get_or xs i (get_or xs i d)
at_place [] i d within = absurd (omega (arith, within))
at_place (x ∷ xs) zero d within = refl
at_place (x ∷ xs) (suc i) d within = at_place xs i d (omega arith)

-- what a list gives after one more element
pub flat_map_push : {X Y : Type 0} (f : X → List Y) (xs more : List X) (x : X) → more ≡ xs ++ x ∷ [] → flat_map f more ≡ flat_map f xs ++ f x
flat_map_push f xs more x is = ap (flat_map f) is ∙ flat_map-append f xs (x ∷ []) ∙ ap (λ ys. flat_map f xs ++ ys) (append-nil (f x))

module _ {X Y : Type 0} (g : X → Y) (xs : List X) (i : ℕ) (x : X) (within : i < length xs) (is : x ≡ get_or xs i x) where
  pub map_one : map g (take (i + 1) xs) ≡ map g (take i xs) ++ g x ∷ []
  map_one = ap (map g) (take_one xs i x within is) ∙ map-append g (take i xs) (x ∷ [])

  pub map_map_one : {Z : Type 0} (f : Y → Z) → map f (map g (take (i + 1) xs)) ≡ map f (map g (take i xs)) ++ f (g x) ∷ []
  map_map_one f = ap (map f) map_one ∙ map-append f (map g (take i xs)) (g x ∷ [])

  pub filter_one : {Z : Type 0} (f : Y → Z) (p : Y → Bool) → map f (filter p (map g (take (i + 1) xs))) ≡ map f (filter p (map g (take i xs))) ++ map f (filter p (g x ∷ []))
  filter_one f p = ap (λ ys. map f (filter p ys)) map_one ∙ ap (map f) (filter-append p (map g (take i xs)) (g x ∷ [])) ∙ map-append f (filter p (map g (take i xs))) (filter p (g x ∷ []))

  pub filter_map_one : {Z W : Type 0} (f : Z → W) (h : Y → Option Z) (before : List W)
      → before ++ map f (filter_map h (map g (take (i + 1) xs))) ≡ (before ++ map f (filter_map h (map g (take i xs)))) ++ map f (filter_map h (g x ∷ []))
  filter_map_one f h before =
      ap (λ ys. before ++ map f (filter_map h ys)) map_one
      ∙ ap (λ ys. before ++ map f ys) (filter_map-append h (map g (take i xs)) (g x ∷ []))
      ∙ ap (λ ys. before ++ ys) (map-append f (filter_map h (map g (take i xs))) (filter_map h (g x ∷ [])))
      ∙ sym (append_assoc before (map f (filter_map h (map g (take i xs)))) (map f (filter_map h (g x ∷ []))))
