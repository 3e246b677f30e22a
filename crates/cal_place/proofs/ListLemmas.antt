-- Lists: facts on mapped lists and on the front of a list, and tests of facts.
use Rattle.std.proofs.Common.{◌≡◌, ℕ, zero, suc, ◌+◌, ◌<◌, ◌≤◌, Bool, true, false, ◌||◌, ◌↔◌, List, [], ◌∷◌, ◌++◌, length, map, take, drop, get_or, slice_get, All, Bor, Option, Some, None, option_map, refl, sym, ap, ap₂, subst, ◌∙◌, arith}
use Rattle.std.specs.Bool.{IsTrue}
use Rattle.std.specs.List.{list_any}
use Rattle.std.specs.Option.{option_copied}
use Rattle.std.specs.Slice.{IsItemAt}
use Rattle.std.proofs.Math.Seq.{drop-cons}
use Rattle.std.proofs.lemmas.List.{get_or-map, length-map, take_more, take_all, take-append-drop, map-append, length-append, get_or_append_left, get_or-append-add}
use Rattle.std.proofs.lemmas.List.Folds.{list_any_at, list_any_more}
use Rattle.std.proofs.lemmas.Option.{get_or_from_slice_get, slice_get_past, slice_get_read, slice_get_within, slice_get-get_or, slice_get-map}

-- a fact of each element of a mapped list
pub All-unmap : {X Y : Type 0} (P : Y → Type 0) (f : X → Y) (xs : List X) → All P (map f xs) → All (λ x. P (f x)) xs
All-unmap P f xs all k d within =
    subst P (get_or-map f xs k d (f d) within) (all k (f d) (subst (λ (n : ℕ). k < n) (sym (length-map xs f)) within))

pub All-mapped : {X Y : Type 0} (P : Y → Type 0) (f : X → Y) (xs : List X) → All (λ x. P (f x)) xs → All P (map f xs)
All-mapped P f [] all k d within = absurd (omega arith)
All-mapped P f (x ∷ xs) all zero d within = all zero x (omega arith)
All-mapped P f (x ∷ xs) all (suc k) d within = All-mapped P f xs (λ j e below. all (suc j) e (omega arith)) k d (omega arith)

-- a fact of each element of two lists, one after the other
pub All-front : {X : Type 0} (P : X → Type 0) (xs ys : List X) → All P (xs ++ ys) → All P xs
All-front P xs ys all k d below =
    let there : k < length (xs ++ ys) = omega (arith, length-append xs ys) in
    subst P (get_or_append_left xs ys d k below) (all k d there)

pub All-back : {X : Type 0} (P : X → Type 0) (xs ys : List X) → All P (xs ++ ys) → All P ys
All-back P xs ys all k d below =
    let there : length xs + k < length (xs ++ ys) = omega (arith, length-append xs ys) in
    subst P (get_or-append-add xs ys k d) (all (length xs + k) d there)

-- a test that fails, and one that passes
pub told_false : (P : Type 0) → (P → ⊥) → IsTrue false ↔ P
told_false P not_so = (λ t. let bad : false ≡ true = t in absurd (cc), λ p. absurd (not_so p))

pub told_true : (P : Type 0) → P → IsTrue true ↔ P
told_true P p = (λ t. p, λ q. refl)

-- a mapped list, up to one more element
pub map_more : {X Y : Type 0} (f : X → Y) (xs : List X) (i : ℕ) (d : X) → i < length xs → map f (take (i + 1) xs) ≡ map f (take i xs) ++ f (get_or xs i d) ∷ []
map_more f xs i d within = ap (map f) (take_more xs i d within) ∙ map-append f (take i xs) (get_or xs i d ∷ [])

-- a list, cut before an element
pub cut_at : {X : Type 0} (xs : List X) (k : ℕ) (x : X) → slice_get xs k ≡ Some x → xs ≡ take k xs ++ x ∷ drop (suc k) xs
cut_at xs k x at =
    let within = slice_get_within xs k x at in
    sym (take-append-drop k xs) ∙ ap (λ ys. take k xs ++ ys) (drop-cons xs k x within ∙ ap (λ y. y ∷ drop (suc k) xs) (get_or_from_slice_get xs k x x at))

pub one_more : {X : Type 0} (xs : List X) (k : ℕ) (x : X) → slice_get xs k ≡ Some x → take (k + 1) xs ≡ take k xs ++ x ∷ []
one_more xs k x at =
    take_more xs k x (slice_get_within xs k x at) ∙ ap (λ y. take k xs ++ y ∷ []) (get_or_from_slice_get xs k x x at)

-- what a loop over a list has in hand
pub item_at : {X : Type 0} (xs ys : List X) (k : ℕ) (x : X) → ys ≡ xs → k < length ys → x ≡ get_or ys k x → slice_get xs k ≡ Some x
item_at xs ys k x same within is = ap (λ zs. slice_get zs k) (sym same) ∙ slice_get_read ys (length ys) k x refl within is

pub at_mapped : {X Y : Type 0} (f : X → Y) (xs ys : List X) (k : ℕ) (x : X) → ys ≡ xs → k < length ys → x ≡ get_or ys k x → slice_get (map f xs) k ≡ Some (f x)
at_mapped f xs ys k x same within is = slice_get-map f xs k ∙ ap (option_map f) (item_at xs ys k x same within is)

pub mapped_at : {X Y : Type 0} (f : X → Y) (xs : List X) (k : ℕ) (d : X) → k < length xs → slice_get (map f xs) k ≡ Some (f (get_or xs k d))
mapped_at f xs k d within = slice_get-map f xs k ∙ ap (option_map f) (slice_get-get_or xs k d within)

pub All-at : {X : Type 0} (P : X → Type 0) (xs : List X) (k : ℕ) (x : X) → slice_get xs k ≡ Some x → All P xs → P x
All-at P xs k x at all = subst P (get_or_from_slice_get xs k x x at) (all k x (slice_get_within xs k x at))

pub All-item : {X : Type 0} (P : X → Type 0) (xs ys : List X) (k : ℕ) (x : X) → ys ≡ xs → k < length ys → x ≡ get_or ys k x → All P xs → P x
All-item P xs ys k x same within is all = All-at P xs k x (item_at xs ys k x same within is) all

-- what `get` answers, as a look-up
pub got : {X : Type 0} (xs : List X) (i : ℕ) (r : Option (Bor X)) → IsItemAt xs i r → option_copied r ≡ slice_get xs i
got xs i None h = sym (slice_get_past xs i h.3)
got xs i (Some x) h = sym (slice_get-get_or xs i x.now h.3.0 ∙ ap Some (sym h.1))

-- a test of one element of a list, which is looked for
module _ {X : Type 0} (test : X → Bool) (xs : List X) (k : ℕ) (x : X) (at : slice_get xs k ≡ Some x) where
  pub any_found : test x ≡ true → list_any test xs ≡ true
  any_found yes' = list_any_at test xs k x (slice_get_within xs k x at) (ap test (get_or_from_slice_get xs k x x at) ∙ yes')

  pub any_more : list_any test (take k xs) ≡ false → test x ≡ false → list_any test (take (k + 1) xs) ≡ false
  any_more before fails =
      list_any_more test xs k x (slice_get_within xs k x at) ∙ ap₂ (λ a b. a || b) before (ap test (get_or_from_slice_get xs k x x at) ∙ fails)

pub any_none : {X : Type 0} (test : X → Bool) (xs : List X) (k : ℕ) → length xs ≤ k → list_any test (take k xs) ≡ false → list_any test xs ≡ false
any_none test xs k end none = ap (list_any test) (sym (take_all k xs end)) ∙ none
