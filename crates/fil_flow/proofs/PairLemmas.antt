-- Lists that agree place by place.
use Rattle.std.proofs.Common.{◌≡◌, ℕ, zero, suc, List, [], ◌∷◌, ◌++◌, length, map, set, slice_get, Contains, Some, refl, ap, ap₂, subst, sym, ◌∙◌, arith}
use Rattle.std.specs.List.{AllZip}
use Rattle.std.proofs.lemmas.Option.{none-some, same_Some}
use Rattle.hw_names.specs.Name.{Text, AreDistinct}
use Rattle.hw_names.proofs.NameLemmas.{Contains-slice_get}
use Rattle.fil_flow.proofs.Lookups.{later_distinct, first_differs}

module _ {X Y : Type 0} (R : X → Y → Type 0) where
  pub zip_push : (xs : List X) (ys : List Y) (x : X) (y : Y) → AllZip R xs ys → R x y → AllZip R (xs ++ x ∷ []) (ys ++ y ∷ [])
  zip_push [] [] x y all r = (r, tt)
  zip_push [] (w ∷ ys) x y all r = absurd all
  zip_push (v ∷ xs) [] x y all r = absurd all
  zip_push (v ∷ xs) (w ∷ ys) x y all r = (all.0, zip_push xs ys x y all.1 r)

  pub zip_length : (xs : List X) (ys : List Y) → AllZip R xs ys → length ys ≡ length xs
  zip_length [] [] all = refl
  zip_length [] (w ∷ ys) all = absurd all
  zip_length (v ∷ xs) [] all = absurd all
  zip_length (v ∷ xs) (w ∷ ys) all = ap suc (zip_length xs ys all.1)

  -- the element at the same place of the other list
  pub zip_at : (xs : List X) (ys : List Y) (n : ℕ) (x : X) → AllZip R xs ys → slice_get xs n ≡ Some x → (y : Y) × (slice_get ys n ≡ Some y) × R x y
  zip_at [] ys n x all at = absurd (none-some x at)
  zip_at (v ∷ xs) [] n x all at = absurd all
  zip_at (v ∷ xs) (w ∷ ys) zero x all at = (w, refl, (let Q : X → Type 0 = λ u. R u w in subst Q (same_Some v x at) all.0))
  zip_at (v ∷ xs) (w ∷ ys) (suc n) x all at = zip_at xs ys n x all.1 at

  pub zip_both : (xs : List X) (ys : List Y) (n : ℕ) (x : X) (y : Y) → AllZip R xs ys → slice_get xs n ≡ Some x → slice_get ys n ≡ Some y → R x y
  zip_both xs ys n x y all at_x at_y =
      let (w, at_w, r) = zip_at xs ys n x all at_x in
      let Q : Y → Type 0 = R x in
      subst Q (same_Some w y (sym at_w ∙ at_y)) r

  pub zip_maps : {Z : Type 0} (f : X → Z) (g : Y → Z) → ((x : X) (y : Y) → R x y → f x ≡ g y) → (xs : List X) (ys : List Y) → AllZip R xs ys → map f xs ≡ map g ys
  zip_maps f g same [] [] all = refl
  zip_maps f g same [] (w ∷ ys) all = absurd all
  zip_maps f g same (v ∷ xs) [] all = absurd all
  zip_maps f g same (v ∷ xs) (w ∷ ys) all = ap₂ ◌∷◌ (same v w all.0) (zip_maps f g same xs ys all.1)

  pub zip_mapped : {V : Type 0} (f : V → X) (vs : List V) (ys : List Y) → AllZip (λ v y. R (f v) y) vs ys → AllZip R (map f vs) ys
  zip_mapped f [] [] all = tt
  zip_mapped f [] (w ∷ ys) all = absurd all
  zip_mapped f (v ∷ vs) [] all = absurd all
  zip_mapped f (v ∷ vs) (w ∷ ys) all = (all.0, zip_mapped f vs ys all.1)

  module _ (Q : X → Y → Type 0) where
    pub zip_weaker : ((x : X) (y : Y) → R x y → Q x y) → (xs : List X) (ys : List Y) → AllZip R xs ys → AllZip Q xs ys
    zip_weaker then [] [] all = tt
    zip_weaker then [] (w ∷ ys) all = absurd all
    zip_weaker then (v ∷ xs) [] all = absurd all
    zip_weaker then (v ∷ xs) (w ∷ ys) all = (then v w all.0, zip_weaker then xs ys all.1)

    -- where what has another name keeps its mate
    module _ (name_of : X → Text) (name : Text) (then : (x : X) (y : Y) → (name_of x ≡ name → ⊥) → R x y → Q x y) where
      others : (xs : List X) (ys : List Y) → (Contains (map name_of xs) name → ⊥) → AllZip R xs ys → AllZip Q xs ys
      others [] [] absent all = tt
      others [] (w ∷ ys) absent all = absurd all
      others (v ∷ xs) [] absent all = absurd all
      others (v ∷ xs) (w ∷ ys) absent all =
          (then v w (λ same. absent (zero, omega arith, same)) all.0, others xs ys (λ (k, within, at). absent (suc k, omega arith, at)) all.1)

      -- and what has this name gets another
      pub zip_set : (xs : List X) (ys : List Y) (n : ℕ) (y : Y) → AreDistinct (map name_of xs) → slice_get (map name_of xs) n ≡ Some name → AllZip R xs ys
          → ((x : X) → slice_get xs n ≡ Some x → Q x y) → AllZip Q xs (set ys n y)
      zip_set [] ys n y distinct at all here = absurd (none-some name at)
      zip_set (v ∷ xs) [] n y distinct at all here = absurd all
      zip_set (v ∷ xs) (w ∷ ys) zero y distinct at all here =
          let same = same_Some (name_of v) name at in
          (here v refl, others xs ys (λ there. first_differs (name_of v) (map name_of xs) name distinct there same) all.1)
      zip_set (v ∷ xs) (w ∷ ys) (suc n) y distinct at all here = (
        then v w (first_differs (name_of v) (map name_of xs) name distinct (Contains-slice_get (map name_of xs) n name at)) all.0,
        zip_set xs ys n y (later_distinct (name_of v) (map name_of xs) distinct) at all.1 here,
      )
