-- Lists of which something holds, and names that differ.
use Rattle.std.proofs.Common.{◌≡◌, ℕ, zero, suc, ◌<◌, List, [], ◌∷◌, ◌++◌, Some, length, sym, subst, ◌∙◌, arith}
use Rattle.std.specs.Prelude.{slice_get, All}
use Rattle.std.specs.List.{AllByRecursion}
use Rattle.std.proofs.lemmas.List.{length-append, get_or_append_left}
use Rattle.std.proofs.lemmas.Option.{slice_get_within, get_or_from_slice_get}
use Rattle.hw_names.specs.Name.{Text, AreDistinct}

-- what holds of all holds of each
pub all_at : {X : Type 0} (P : X → Type 0) (xs : List X) (k : ℕ) (x : X) → All P xs → slice_get xs k ≡ Some x → P x
all_at P xs k x all found = subst P (get_or_from_slice_get xs k x x found) (all k x (slice_get_within xs k x found))

pub each_at : {X : Type 0} (P : X → Type 0) (xs : List X) (k : ℕ) (x : X) → AllByRecursion P xs → slice_get xs k ≡ Some x → P x
each_at P [] k x all found = cc found
each_at P (y ∷ xs) zero x all found = let same : y ≡ x = cc found in subst P same all.0
each_at P (y ∷ xs) (suc k) x all found = each_at P xs k x all.1 found

-- of names that differ the first do, and so do the last
pub distinct_front : (xs ys : List Text) → AreDistinct (xs ++ ys) → AreDistinct xs
distinct_front xs ys distinct i j d before within same =
    let early : i < length xs = omega arith in
    let all : j < length (xs ++ ys) = omega (arith, length-append xs ys) in
    distinct i j d before all (get_or_append_left xs ys d i early ∙ same ∙ sym (get_or_append_left xs ys d j within))

pub distinct_back : (xs ys : List Text) → AreDistinct (xs ++ ys) → AreDistinct ys
distinct_back [] ys distinct = distinct
distinct_back (x ∷ xs) ys distinct = distinct_back xs ys (λ i j d before within. distinct (suc i) (suc j) d (omega arith) (omega arith))
