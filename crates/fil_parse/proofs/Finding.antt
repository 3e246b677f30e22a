-- The first that passes a test, in lists one after the other.
use Rattle.std.proofs.Common.{◌≡◌, ℕ, zero, suc, ◌+◌, ◌<◌, Bool, List, [], ◌∷◌, ◌++◌, length, take, get_or, Option, Some, None, refl, sym, ap, ◌∙◌, arith}
use Rattle.std.specs.Prelude.{find, flat_map}
use Rattle.std.specs.Option.{option_or}
use Rattle.std.proofs.lemmas.List.Folds.{find-append}
use Rattle.std.proofs.lemmas.List.Concat.{flat_map-cons}

or_some : {X : Type 0} (a b : Option X) (x : X) → a ≡ Some x → option_or a b ≡ Some x
or_some a b x e = rw e refl

or_none : {X : Type 0} (a b : Option X) → option_or a b ≡ None → (a ≡ None) × (b ≡ None)
or_none None b e = (refl, e)
or_none (Some x) b e = absurd cc

pub or_next : {X : Type 0} (a b : Option X) → a ≡ None → option_or a b ≡ b
or_next a b e = rw e refl

module _ {X Y : Type 0} (p : Y → Bool) (f : X → List Y) where
  parts : (x : X) (xs : List X) → find p (flat_map f (x ∷ xs)) ≡ option_or (find p (f x)) (find p (flat_map f xs))
  parts x xs = ap (find p) (flat_map-cons f x xs) ∙ find-append p (f x) (flat_map f xs)

  -- none passes before it, and in it one does
  pub found : (xs : List X) (i : ℕ) (d x : X) (y : Y) → i < length xs → get_or xs i d ≡ x → find p (flat_map f (take i xs)) ≡ None → find p (f x) ≡ Some y → find p (flat_map f xs) ≡ Some y
  found [] i d x y lt e none some = absurd (omega arith)
  found (z ∷ zs) zero d x y lt e none some = parts z zs ∙ or_some (find p (f z)) (find p (flat_map f zs)) y (ap (λ (v : X). find p (f v)) e ∙ some)
  found (z ∷ zs) (suc i) d x y lt e none some =
      let n = or_none (find p (f z)) (find p (flat_map f (take i zs))) (sym (parts z (take i zs)) ∙ none) in
      parts z zs ∙ or_next (find p (f z)) (find p (flat_map f zs)) n.0 ∙ found zs i d x y (omega arith) e n.1 some

  -- none passes in it either
  pub passed : (xs : List X) (i : ℕ) (d x : X) → i < length xs → get_or xs i d ≡ x → find p (flat_map f (take i xs)) ≡ None → find p (f x) ≡ None → find p (flat_map f (take (i + 1) xs)) ≡ None
  passed [] i d x lt e none next = absurd (omega arith)
  passed (z ∷ zs) zero d x lt e none next = parts z [] ∙ or_next (find p (f z)) (find p []) (ap (λ (v : X). find p (f v)) e ∙ next)
  passed (z ∷ zs) (suc i) d x lt e none next =
      let n = or_none (find p (f z)) (find p (flat_map f (take i zs))) (sym (parts z (take i zs)) ∙ none) in
      let k : suc i + 1 ≡ suc (i + 1) = omega arith in
      ap (λ (j : ℕ). find p (flat_map f (take j (z ∷ zs)))) k ∙ parts z (take (i + 1) zs) ∙ or_next (find p (f z)) (find p (flat_map f (take (i + 1) zs))) n.0 ∙ passed zs i d x (omega arith) e n.1 next

left : {X : Type 0} (p : X → Bool) (xs ys : List X) (y : X) → find p xs ≡ Some y → find p (xs ++ ys) ≡ Some y
left p xs ys y e = find-append p xs ys ∙ or_some (find p xs) (find p ys) y e

right : {X : Type 0} (p : X → Bool) (xs ys : List X) → find p xs ≡ None → find p (xs ++ ys) ≡ find p ys
right p xs ys e = find-append p xs ys ∙ or_next (find p xs) (find p ys) e

-- in the first of four lists, in the second, the third or the fourth
module _ {X : Type 0} (p : X → Bool) (a b c d : List X) where
  pub in_first : (y : X) → find p a ≡ Some y → find p (a ++ (b ++ (c ++ d))) ≡ Some y
  in_first y e = left p a (b ++ (c ++ d)) y e

  pub in_second : (y : X) → find p a ≡ None → find p b ≡ Some y → find p (a ++ (b ++ (c ++ d))) ≡ Some y
  in_second y h e = right p a (b ++ (c ++ d)) h ∙ left p b (c ++ d) y e

  pub in_third : (y : X) → find p a ≡ None → find p b ≡ None → find p c ≡ Some y → find p (a ++ (b ++ (c ++ d))) ≡ Some y
  in_third y h k e = right p a (b ++ (c ++ d)) h ∙ right p b (c ++ d) k ∙ left p c d y e

  pub in_fourth : find p a ≡ None → find p b ≡ None → find p c ≡ None → find p (a ++ (b ++ (c ++ d))) ≡ find p d
  in_fourth h k l = right p a (b ++ (c ++ d)) h ∙ right p b (c ++ d) k ∙ right p c d l
