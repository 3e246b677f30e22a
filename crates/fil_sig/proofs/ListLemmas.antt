-- Laws of lists: a search from a place on, facts on mapped lists, and a name that comes twice.
use Rattle.std.proofs.Common.{◌≡◌, ℕ, zero, suc, ◌+◌, ◌<◌, Bool, true, false, ◌↔◌, List, [], ◌∷◌, ◌++◌, length, map, take, drop, get_or, slice_get, All, Contains, if◌then◌else◌, refl, sym, ap, subst, ◌∙◌, add-one, zero-add, arith}
use Rattle.std.specs.Bool.{IsTrue}
use Rattle.std.proofs.Math.Seq.{drop-cons, get_or-append_seam}
use Rattle.std.proofs.lemmas.List.{get_or_append_left, get_or-map, length-map, take_more, map-append, take-append-drop}
use Rattle.hw_names.specs.Name.{Text, AreDistinct}

-- a list from a place on
pub from_place : {X : Type 0} (xs : List X) (i : ℕ) (d : X) → i < length xs → drop i xs ≡ get_or xs i d ∷ drop (i + 1) xs
from_place xs i d within = drop-cons xs i d within ∙ ap (λ k. get_or xs i d ∷ drop k xs) (sym (add-one i))

-- a search that tests the first element, or goes on
module _ {X R : Type 0} (F : List X → R) (test : X → Bool) (found : X → R) (later : R → R) (step : (x : X) (xs : List X) → F (x ∷ xs) ≡ (if test x then found x else later (F xs))) where
  pub found_at : (xs : List X) (i : ℕ) (d : X) → i < length xs → test (get_or xs i d) ≡ true → F (drop i xs) ≡ found (get_or xs i d)
  found_at xs i d within is =
      ap F (from_place xs i d within) ∙ step (get_or xs i d) (drop (i + 1) xs)
      ∙ ap (λ (b : Bool). if b then found (get_or xs i d) else later (F (drop (i + 1) xs))) is

  pub missed_at : (xs : List X) (i : ℕ) (d : X) → i < length xs → test (get_or xs i d) ≡ false → F (drop i xs) ≡ later (F (drop (i + 1) xs))
  missed_at xs i d within is =
      ap F (from_place xs i d within) ∙ step (get_or xs i d) (drop (i + 1) xs)
      ∙ ap (λ (b : Bool). if b then found (get_or xs i d) else later (F (drop (i + 1) xs))) is

-- a fact of each element of a mapped list
pub All-unmap : {X Y : Type 0} (P : Y → Type 0) (f : X → Y) (xs : List X) → All P (map f xs) → All (λ x. P (f x)) xs
All-unmap P f xs all k d within =
    subst P (get_or-map f xs k d (f d) within) (all k (f d) (subst (λ (n : ℕ). k < n) (sym (length-map xs f)) within))

pub All-mapped : {X Y : Type 0} (P : Y → Type 0) (f : X → Y) (xs : List X) → All (λ x. P (f x)) xs → All P (map f xs)
All-mapped P f [] all k d within = absurd (omega arith)
All-mapped P f (x ∷ xs) all zero d within = all zero x (omega arith)
All-mapped P f (x ∷ xs) all (suc k) d within = All-mapped P f xs (λ j e below. all (suc j) e (omega arith)) k d (omega arith)

-- a test that fails, and one that passes
pub told_false : (P : Type 0) → (P → ⊥) → IsTrue false ↔ P
told_false P not_so = (λ t. let bad : false ≡ true = t in absurd (cc), λ p. absurd (not_so p))

pub told_true : (P : Type 0) → P → IsTrue true ↔ P
told_true P p = (λ t. p, λ q. refl)

-- a name that stands before is no new one
pub comes_twice : (before after : List Text) (name : Text) → Contains before name → AreDistinct (before ++ name ∷ after) → ⊥
comes_twice before after name (k, below, at) distinct =
    distinct k (length before) name below (longer before after name)
    (get_or_append_left before (name ∷ after) name k below ∙ at ∙ sym (get_or-append_seam before name after name))
  where
    longer : (xs ys : List Text) (x : Text) → length xs < length (xs ++ x ∷ ys)
    longer [] ys x = omega arith
    longer (y ∷ xs) ys x = let rest = longer xs ys x in omega arith

-- a mapped list, cut at a place
pub map_at : {X Y : Type 0} (f : X → Y) (xs : List X) (i : ℕ) (d : X) → i < length xs → map f xs ≡ map f (take i xs) ++ f (get_or xs i d) ∷ map f (drop (i + 1) xs)
map_at f xs i d within =
    ap (map f) (sym (take-append-drop i xs)) ∙ map-append f (take i xs) (drop i xs)
    ∙ ap (λ ys. map f (take i xs) ++ map f ys) (from_place xs i d within)

pub map_more : {X Y : Type 0} (f : X → Y) (xs : List X) (i : ℕ) (d : X) → i < length xs → map f (take (i + 1) xs) ≡ map f (take i xs) ++ f (get_or xs i d) ∷ []
map_more f xs i d within = ap (map f) (take_more xs i d within) ∙ map-append f (take i xs) (get_or xs i d ∷ [])

pub slice_get-drop : {X : Type 0} (n : ℕ) (xs : List X) (i : ℕ) → slice_get (drop n xs) i ≡ slice_get xs (n + i)
slice_get-drop zero xs i = ap (slice_get xs) (sym (zero-add i))
slice_get-drop (suc n) [] i = refl
slice_get-drop (suc n) (x ∷ xs) i =
    let e : suc (n + i) ≡ suc n + i = omega arith in
    slice_get-drop n xs i ∙ ap (slice_get (x ∷ xs)) e
