-- Lists of which each element is known, one by one.
use Rattle.std.proofs.Common.{◌≡◌, List, [], ◌∷◌, ◌++◌, map, subst, inl, inr, ap, refl, ◌∙◌}
use Rattle.std.specs.Prelude.{Contains, flat_map}
use Rattle.cal_ast.proofs.ListLemmas.{Contains-here, Contains-there, Contains-none, Contains-cases_first}

abbrev pub Each : {X : Type 0} → (X → Type 0) → List X → Type 0
Each P [] = Unit {0}
Each P (x ∷ xs) = P x × Each P xs

module _ {X : Type 0} (P : X → Type 0) where
  pub each_append : (xs ys : List X) → Each P xs → Each P ys → Each P (xs ++ ys)
  each_append [] ys left right = right
  each_append (x ∷ xs) ys left right = (left.0, each_append xs ys left.1 right)

  pub each_left : (xs ys : List X) → Each P (xs ++ ys) → Each P xs
  each_left [] ys all = tt
  each_left (x ∷ xs) ys all = (all.0, each_left xs ys all.1)

  pub each_right : (xs ys : List X) → Each P (xs ++ ys) → Each P ys
  each_right [] ys all = all
  each_right (x ∷ xs) ys all = each_right xs ys all.1

  pub each_from : (xs : List X) → ((x : X) → Contains xs x → P x) → Each P xs
  each_from [] f = tt
  each_from (x ∷ xs) f = (f x (Contains-here x xs), each_from xs (λ y has. f y (Contains-there x xs y has)))

  pub each_at : (xs : List X) (x : X) → Each P xs → Contains xs x → P x
  each_at [] x all has = absurd (Contains-none x has)
  each_at (y ∷ ys) x all has = elim (Contains-cases_first y ys x has) [
    | inl same ↦ subst P same all.0
    | inr there ↦ each_at ys x all.1 there
  ]

pub each_weaker : {X : Type 0} (P Q : X → Type 0) → ((x : X) → P x → Q x) → (xs : List X) → Each P xs → Each Q xs
each_weaker P Q f [] all = tt
each_weaker P Q f (x ∷ xs) all = (f x all.0, each_weaker P Q f xs all.1)

pub each_map : {X Y : Type 0} (P : Y → Type 0) (f : X → Y) (xs : List X) → Each (λ x. P (f x)) xs → Each P (map f xs)
each_map P f [] all = tt
each_map P f (x ∷ xs) all = (all.0, each_map P f xs all.1)

pub each_flat_map : {X Y : Type 0} (P : Y → Type 0) (f : X → List Y) (xs : List X) → Each (λ x. Each P (f x)) xs → Each P (flat_map f xs)
each_flat_map P f [] all = tt
each_flat_map P f (x ∷ xs) all = each_append P (f x) (flat_map f xs) all.0 (each_flat_map P f xs all.1)

-- lists made alike of each element are alike
pub flat_map_same : {X Y : Type 0} (f g : X → List Y) (xs : List X) → Each (λ x. f x ≡ g x) xs → flat_map f xs ≡ flat_map g xs
flat_map_same f g [] all = refl
flat_map_same f g (x ∷ xs) all = ap (λ ys. ys ++ flat_map f xs) all.0 ∙ ap (λ ys. g x ++ ys) (flat_map_same f g xs all.1)

pub flat_map_none : {X Y : Type 0} (f : X → List Y) (xs : List X) → Each (λ x. f x ≡ []) xs → flat_map f xs ≡ []
flat_map_none f [] all = refl
flat_map_none f (x ∷ xs) all = ap (λ ys. ys ++ flat_map f xs) all.0 ∙ flat_map_none f xs all.1

pub each_both : {X : Type 0} (P Q : X → Type 0) (xs : List X) → Each P xs → Each Q xs → Each (λ x. P x × Q x) xs
each_both P Q [] one other = tt
each_both P Q (x ∷ xs) one other = ((one.0, other.0), each_both P Q xs one.1 other.1)
