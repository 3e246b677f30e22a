-- Elements of lists that are made of others.
use Rattle.std.proofs.Common.{◌≡◌, ℕ, zero, suc, ◌⊎◌, inl, inr, List, [], ◌∷◌, ◌++◌, Bool, true, false, refl, sym, ap, ◌∙◌, Some}
use Rattle.std.specs.Prelude.{Contains, map, filter, slice_get}
use Rattle.std.specs.List.{flat_map}
use Rattle.std.proofs.lemmas.Option.{slice_get_within, get_or_from_slice_get, slice_get-get_or}

-- x is an element, by recursion on the list
abbrev pub In : {X : Type 0} → List X → X → Type 0
In [] x = ⊥
In (y ∷ ys) x = (y ≡ x) ⊎ In ys x

pub in_at : {X : Type 0} (xs : List X) (k : ℕ) (x : X) → slice_get xs k ≡ Some x → In xs x
in_at [] k x at = cc
in_at (y ∷ ys) zero x at = inl (cc)
in_at (y ∷ ys) (suc k) x at = inr (in_at ys k x at)

pub at_of : {X : Type 0} (xs : List X) (x : X) → In xs x → (k : ℕ) × (slice_get xs k ≡ Some x)
at_of [] x has = absurd has
at_of (y ∷ ys) x (inl e) = (0, ap Some e)
at_of (y ∷ ys) x (inr has) = let r = at_of ys x has in (suc r.0, r.1)

pub in_of : {X : Type 0} (xs : List X) (x : X) → Contains xs x → In xs x
in_of xs x has = in_at xs has.0 x (slice_get-get_or xs has.0 x has.1 ∙ ap Some has.2)

pub contains_of : {X : Type 0} (xs : List X) (x : X) → In xs x → Contains xs x
contains_of xs x has = let r = at_of xs x has in (r.0, slice_get_within xs r.0 x r.1, get_or_from_slice_get xs r.0 x x r.1)

pub in_left : {X : Type 0} (xs ys : List X) (x : X) → In xs x → In (xs ++ ys) x
in_left [] ys x has = absurd has
in_left (y ∷ xs) ys x (inl e) = inl e
in_left (y ∷ xs) ys x (inr has) = inr (in_left xs ys x has)

pub in_right : {X : Type 0} (xs ys : List X) (x : X) → In ys x → In (xs ++ ys) x
in_right [] ys x has = has
in_right (y ∷ xs) ys x has = inr (in_right xs ys x has)

pub in_append : {X : Type 0} (xs ys : List X) (x : X) → In (xs ++ ys) x → In xs x ⊎ In ys x
in_append [] ys x has = inr has
in_append (y ∷ xs) ys x (inl e) = inl (inl e)
in_append (y ∷ xs) ys x (inr has) = elim (in_append xs ys x has) [ inl l ↦ inl (inr l) | inr r ↦ inr r ]

pub in_map : {X Y : Type 0} (f : X → Y) (xs : List X) (x : X) → In xs x → In (map f xs) (f x)
in_map f [] x has = absurd has
in_map f (y ∷ ys) x (inl e) = inl (ap f e)
in_map f (y ∷ ys) x (inr has) = inr (in_map f ys x has)

pub from_map : {X Y : Type 0} (f : X → Y) (xs : List X) (y : Y) → In (map f xs) y → (x : X) × In xs x × (f x ≡ y)
from_map f [] y has = absurd has
from_map f (x ∷ xs) y (inl e) = (x, inl refl, e)
from_map f (x ∷ xs) y (inr has) = let r = from_map f xs y has in (r.0, inr r.1, r.2)

pub in_flat_map : {X Y : Type 0} (f : X → List Y) (xs : List X) (x : X) (y : Y) → In xs x → In (f x) y → In (flat_map f xs) y
in_flat_map f [] x y has there = absurd has
in_flat_map f (z ∷ xs) x y (inl e) there = in_left (f z) (flat_map f xs) y (rw e there)
in_flat_map f (z ∷ xs) x y (inr has) there = in_right (f z) (flat_map f xs) y (in_flat_map f xs x y has there)

pub from_flat_map : {X Y : Type 0} (f : X → List Y) (xs : List X) (y : Y) → In (flat_map f xs) y → (x : X) × In xs x × In (f x) y
from_flat_map f [] y has = absurd has
from_flat_map f (z ∷ xs) y has = elim (in_append (f z) (flat_map f xs) y has) [
  | inl here ↦ (z, inl refl, here)
  | inr later ↦ let r = from_flat_map f xs y later in (r.0, inr r.1, r.2)
]

pub in_filter : {X : Type 0} (p : X → Bool) (xs : List X) (x : X) → In xs x → p x ≡ true → In (filter p xs) x
in_filter p [] x has yes' = absurd has
in_filter p (y ∷ ys) x (inl e) yes' = rw (ap p e ∙ yes') (inl e)
in_filter p (y ∷ ys) x (inr has) yes' = by (p y) refl (in_filter p ys x has yes')
  where
    by : (b : Bool) → p y ≡ b → In (filter p ys) x → In (filter p (y ∷ ys)) x
    by true e there = rw e (inr there)
    by false e there = rw e there

pub from_filter : {X : Type 0} (p : X → Bool) (xs : List X) (x : X) → In (filter p xs) x → In xs x × (p x ≡ true)
from_filter p [] x has = absurd has
from_filter p (y ∷ ys) x has = by (λ h. from_filter p ys x h) (p y) refl has
  where
    by : (In (filter p ys) x → In ys x × (p x ≡ true)) → (b : Bool) → p y ≡ b → In (filter p (y ∷ ys)) x → In (y ∷ ys) x × (p x ≡ true)
    by go true e there = elim (rw e at there) [
      | inl same ↦ (inl same, ap p (sym same) ∙ e)
      | inr later ↦ let r = go later in (inr r.0, r.1)
    ]
    by go false e there = let r = go (rw e at there) in (inr r.0, r.1)
