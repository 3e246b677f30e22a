-- What is found by a name, from the first place of the name.
use Rattle.std.proofs.Common.{◌≡◌, ℕ, zero, suc, ◌<◌, ◌≤◌, ◌↔◌, Bool, true, false, List, [], ◌∷◌, ◌++◌, length, map, take, slice_get, Contains, Some, None, refl, sym, ap, subst, ◌∙◌, arith}
use Rattle.std.specs.Prelude.{bytes_eq, find}
use Rattle.std.proofs.lemmas.Slice.Eq.{bytes_eq-Decides}
use Rattle.hw_names.specs.Name.{Text}
use Rattle.hw_prims.specs.Table.{Pin}
use Rattle.cal_ast.proofs.ListLemmas.{Contains-here, Contains-there, Contains-map, find-at}
use Rattle.cal_ast.specs.Ports.{Input, Output, both_sides}
use Rattle.cal_place.specs.FirstPlaces.{IsFirst}

-- what an element of a mapped list comes from
pub from_map : {X Y : Type 0} (f : X → Y) (xs : List X) (k : ℕ) (y : Y) → slice_get (map f xs) k ≡ Some y → (x : X) × (slice_get xs k ≡ Some x) × (f x ≡ y)
from_map f [] k y at = absurd (cc)
from_map f (x ∷ xs) zero y at = let same : f x ≡ y = cc in (x, refl, same)
from_map f (x ∷ xs) (suc k) y at = from_map f xs k y at

pub to_map : {X Y : Type 0} (f : X → Y) (xs : List X) (k : ℕ) (x : X) → slice_get xs k ≡ Some x → slice_get (map f xs) k ≡ Some (f x)
to_map f [] k x at = absurd (cc)
to_map f (y ∷ ys) zero x at = let same : y ≡ x = cc in ap (λ z. Some (f z)) same
to_map f (y ∷ ys) (suc k) x at = to_map f ys k x at

pub take-map : {X Y : Type 0} (f : X → Y) (k : ℕ) (xs : List X) → take k (map f xs) ≡ map f (take k xs)
take-map f zero xs = refl
take-map f (suc k) [] = refl
take-map f (suc k) (x ∷ xs) = ap (λ ys. f x ∷ ys) (take-map f k xs)

-- an element before a place
pub Contains-take : {X : Type 0} (xs : List X) (j k : ℕ) (x : X) → j < k → slice_get xs j ≡ Some x → Contains (take k xs) x
Contains-take [] j k x less at = absurd (cc)
Contains-take (y ∷ ys) zero zero x less at = absurd (omega arith)
Contains-take (y ∷ ys) zero (suc k) x less at = let same : y ≡ x = cc in subst (λ z. Contains (y ∷ take k ys) z) same (Contains-here y (take k ys))
Contains-take (y ∷ ys) (suc j) zero x less at = absurd (omega arith)
Contains-take (y ∷ ys) (suc j) (suc k) x less at = Contains-there y (take k ys) x (Contains-take ys j k x (omega arith) at)

-- nothing is found where nothing passes
pub find-none : {X : Type 0} (test : X → Bool) (xs : List X) → ((x : X) → Contains xs x → test x ≡ false) → find test xs ≡ None
find-none test [] none = refl
find-none test (x ∷ xs) none =
    rw (none x (Contains-here x xs)) (find-none test xs (λ y has. none y (Contains-there x xs y has)))

pub false_from : (a b : Text) → (a ≡ b → ⊥) → bytes_eq a b ≡ false
false_from a b apart = by (bytes_eq a b) refl
  where
    by : (r : Bool) → bytes_eq a b ≡ r → bytes_eq a b ≡ false
    by true e = absurd (apart ((bytes_eq-Decides a b).0 e))
    by false e = e

-- a list that is searched by the names of its elements
module _ {X : Type 0} (n : X → Text) (xs : List X) (name : Text) where
  pub found_first : (place : ℕ) → IsFirst (map n xs) name place → find (λ (x : X). bytes_eq (n x) name) xs ≡ slice_get xs place
  found_first place first =
      let there = from_map n xs place name first.here in
      find-at (λ (x : X). bytes_eq (n x) name) xs place there.0 there.1 ((bytes_eq-Decides (n there.0) name).1 there.2)
      (λ j y less at. false_from (n y) name
      (λ same. first.new (subst (λ t. Contains (take place (map n xs)) t) same (Contains-take (map n xs) j place (n y) less (to_map n xs j y at)))))
      ∙ sym there.1

  pub found_none : (Contains (map n xs) name → ⊥) → find (λ (x : X). bytes_eq (n x) name) xs ≡ None
  found_none absent =
      find-none (λ (x : X). bytes_eq (n x) name) xs (λ x has. false_from (n x) name (λ same. absent (subst (λ t. Contains (map n xs) t) same (Contains-map n xs x has))))

-- an element is the first of its name exactly where none before it has the name
pub first_at : {X : Type 0} (n : X → Text) (xs : List X) (k : ℕ) (x : X) → slice_get xs k ≡ Some x → IsFirst (map n xs) (n x) k ↔ ¬ Contains (map n (take k xs)) (n x)
first_at n xs k x at = (
  λ first. subst (λ (l : List Text). ¬ Contains l (n x)) (take-map n k xs) first.new,
  λ new. record { here = to_map n xs k x at; new = subst (λ (l : List Text). ¬ Contains l (n x)) (sym (take-map n k xs)) new },
)

-- ports in their order: inputs, and then outputs
pub input_at : (ins outs : List Pin) (k : ℕ) (p : Pin) → k < length ins → slice_get (ins ++ outs) k ≡ Some p → slice_get (both_sides ins outs) k ≡ Some (record { side = Input; pin = p })
input_at [] outs k p within at = absurd (omega arith)
input_at (q ∷ ins) outs zero p within at = let same : q ≡ p = cc in ap (λ r. Some (record { side = Input; pin = r })) same
input_at (q ∷ ins) outs (suc k) p within at = input_at ins outs k p (omega arith) at

pub output_at : (ins outs : List Pin) (k : ℕ) (p : Pin) → length ins ≤ k → slice_get (ins ++ outs) k ≡ Some p → slice_get (both_sides ins outs) k ≡ Some (record { side = Output; pin = p })
output_at [] outs k p past at = to_map (λ (r : Pin). record { side = Output; pin = r }) outs k p at
output_at (q ∷ ins) outs zero p past at = absurd (omega arith)
output_at (q ∷ ins) outs (suc k) p past at = output_at ins outs k p (omega arith) at
