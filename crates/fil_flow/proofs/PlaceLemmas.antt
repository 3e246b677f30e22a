-- What stands at a place of a list: of the first of two lists, of one with one more, of a mapped one, and of its first elements.
use Rattle.std.proofs.Common.{◌≡◌, ℕ, zero, suc, ◌+◌, ◌<◌, ◌⊎◌, get_or, List, [], ◌∷◌, ◌++◌, length, map, take, slice_get, All, Contains, Some, option_map, inl, inr, refl, sym, ap, subst, ◌∙◌, arith}
use Rattle.std.proofs.lemmas.List.{take_more}
use Rattle.std.proofs.lemmas.Option.{get_or_from_slice_get, none-some, same_Some, slice_get-map, slice_get_read, slice_get_within}

-- an element of the first of two lists
pub get-first : {X : Type 0} (xs ys : List X) (k : ℕ) → k < length xs → slice_get (xs ++ ys) k ≡ slice_get xs k
get-first [] ys k within = absurd (omega arith)
get-first (x ∷ xs) ys zero within = refl
get-first (x ∷ xs) ys (suc k) within = get-first xs ys k (omega arith)

pub get-next : {X : Type 0} (xs : List X) (x : X) → slice_get (xs ++ x ∷ []) (length xs) ≡ Some x
get-next [] x = refl
get-next (y ∷ xs) x = get-next xs x

-- an element of a list with one more is an element of the list, or that one
pub first_or_last : {X : Type 0} (xs : List X) (x y : X) (k : ℕ) → slice_get (xs ++ x ∷ []) k ≡ Some y → (slice_get xs k ≡ Some y) ⊎ ((k ≡ length xs) × (x ≡ y))
first_or_last [] x y zero at = inr (refl, same_Some x y at)
first_or_last [] x y (suc k) at = absurd (none-some y at)
first_or_last (z ∷ xs) x y zero at = inl at
first_or_last (z ∷ xs) x y (suc k) at = next (first_or_last xs x y k at) where
  next : (slice_get xs k ≡ Some y) ⊎ ((k ≡ length xs) × (x ≡ y)) → (slice_get xs k ≡ Some y) ⊎ ((suc k ≡ suc (length xs)) × (x ≡ y))
  next (inl here) = inl here
  next (inr (last, same)) = inr (ap suc last, same)

-- what a mapped list has at a place
pub unmapped : {X Y : Type 0} (f : X → Y) (xs : List X) (k : ℕ) (y : Y) → slice_get (map f xs) k ≡ Some y → (x : X) × (slice_get xs k ≡ Some x) × (f x ≡ y)
unmapped f [] k y at = absurd (none-some y at)
unmapped f (x ∷ xs) zero y at = (x, refl, same_Some (f x) y at)
unmapped f (x ∷ xs) (suc k) y at = unmapped f xs k y at

-- an element among the first ones is one of the list, and the other way round
pub from-taken : {X : Type 0} (n : ℕ) (xs : List X) (k : ℕ) (x : X) → slice_get (take n xs) k ≡ Some x → slice_get xs k ≡ Some x
from-taken zero xs k x at = absurd (cc)
from-taken (suc n) [] k x at = absurd (cc)
from-taken (suc n) (y ∷ xs) zero x at = at
from-taken (suc n) (y ∷ xs) (suc k) x at = from-taken n xs k x at

pub get-taken : {X : Type 0} (n : ℕ) (xs : List X) (k : ℕ) → k < n → slice_get (take n xs) k ≡ slice_get xs k
get-taken zero xs k below = absurd (omega arith)
get-taken (suc n) [] k below = refl
get-taken (suc n) (x ∷ xs) zero below = refl
get-taken (suc n) (x ∷ xs) (suc k) below = get-taken n xs k (omega arith)

pub Contains-at : {X : Type 0} (xs : List X) (k : ℕ) (x : X) → slice_get xs k ≡ Some x → Contains xs x
Contains-at xs k x at = (k, slice_get_within xs k x at, get_or_from_slice_get xs k x x at)

-- what stands at a place among the first of a list
pub read_taken : {X : Type 0} (xs ys : List X) (n k : ℕ) (x : X) → ys ≡ xs → k < length (take n ys) → x ≡ get_or (take n ys) k x → slice_get xs k ≡ Some x
read_taken xs ys n k x same within is =
    ap (λ zs. slice_get zs k) (sym same) ∙ from-taken n ys k x (slice_get_read (take n ys) (length (take n ys)) k x refl within is)

pub at_taken : {X Y : Type 0} (f : X → Y) (xs ys : List X) (n k : ℕ) (x : X) → ys ≡ xs → k < length (take n ys) → x ≡ get_or (take n ys) k x → slice_get (map f xs) k ≡ Some (f x)
at_taken f xs ys n k x same within is = slice_get-map f xs k ∙ ap (option_map f) (read_taken xs ys n k x same within is)

-- the first elements and the next one
pub take_next : {X : Type 0} (xs : List X) (k : ℕ) (x : X) → slice_get xs k ≡ Some x → take (k + 1) xs ≡ take k xs ++ x ∷ []
take_next xs k x at = take_more xs k x (slice_get_within xs k x at) ∙ ap (λ y. take k xs ++ y ∷ []) (get_or_from_slice_get xs k x x at)

-- what holds of each element holds of the one at a place
pub each_at : {X : Type 0} (P : X → Type 0) (xs : List X) (k : ℕ) (x : X) → slice_get xs k ≡ Some x → All P xs → P x
each_at P xs k x at all = subst P (get_or_from_slice_get xs k x x at) (all k x (slice_get_within xs k x at))

-- some element stands at a place within a list
pub some_at : {X : Type 0} (xs : List X) (k : ℕ) → k < length xs → (x : X) × (slice_get xs k ≡ Some x)
some_at [] k within = absurd (omega arith)
some_at (x ∷ xs) zero within = (x, refl)
some_at (x ∷ xs) (suc k) within = some_at xs k (omega arith)
