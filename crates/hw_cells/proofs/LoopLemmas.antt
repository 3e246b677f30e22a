-- Loops as walks that come back, and lists in which no number stands twice.
use Rattle.std.proofs.Common.{◌≡◌, ℕ, zero, suc, ◌<◌, Bool, true, false, List, [], ◌∷◌, ◌++◌, length, get_or, Some, refl, sym, ap, ◌∙◌, arith}
use Rattle.std.specs.Prelude.{filter}
use Rattle.std.proofs.lemmas.Option.{slice_get_within, get_or_from_slice_get, slice_get-get_or}
use Rattle.hw_graph.proofs.MemberLemmas.{In, in_at, at_of, from_filter}
use Rattle.hw_graph.specs.Graph.{AreDistinct}
use Rattle.hw_cells.proofs.WayLemmas.{Walk}

module _ (R : ℕ → ℕ → Type 0) (end : ℕ) where
  pub loop_walk : (x : ℕ) (ys : List ℕ) → ((i : ℕ) → suc i < length (x ∷ ys) → R (get_or (x ∷ ys) i 0) (get_or (x ∷ ys) (suc i) 0)) → ((k : ℕ) → suc k ≡ length (x ∷ ys) → R (get_or (x ∷ ys) k 0) end) → Walk R x (ys ++ end ∷ [])
  loop_walk x [] along back = (back 0 (omega arith), tt)
  loop_walk x (y ∷ ys) along back = (along 0 (omega arith), loop_walk y ys (λ i lt. along (suc i) (omega (arith, lt))) (λ k e. back (suc k) (omega (arith, e))))

  pub walk_along : (x : ℕ) (ys : List ℕ) → Walk R x (ys ++ end ∷ []) → (i : ℕ) → suc i < length (x ∷ ys) → R (get_or (x ∷ ys) i 0) (get_or (x ∷ ys) (suc i) 0)
  walk_along x [] walk i lt = absurd (omega (arith, lt))
  walk_along x (y ∷ ys) walk zero lt = walk.0
  walk_along x (y ∷ ys) walk (suc i) lt = walk_along y ys walk.1 i (omega (arith, lt))

  pub walk_back : (x : ℕ) (ys : List ℕ) → Walk R x (ys ++ end ∷ []) → (k : ℕ) → suc k ≡ length (x ∷ ys) → R (get_or (x ∷ ys) k 0) end
  walk_back x [] walk zero e = walk.0
  walk_back x [] walk (suc k) e = absurd (omega (arith, e))
  walk_back x (y ∷ ys) walk zero e = absurd (omega (arith, e))
  walk_back x (y ∷ ys) walk (suc k) e = walk_back y ys walk.1 k (omega (arith, e))

-- ---- lists in which no number stands twice

-- the same by recursion on the list
abbrev pub Distinct : List ℕ → Type 0
Distinct [] = Unit {0}
Distinct (x ∷ xs) = (In xs x → ⊥) × Distinct xs

distinct_of : (xs : List ℕ) → AreDistinct xs → Distinct xs
distinct_of [] once = tt
distinct_of (x ∷ xs) once = (fresh, distinct_of xs rest)
  where
    fresh : In xs x → ⊥
    fresh has =
        let r = at_of xs x has in
        let e = once 0 (suc r.0) (omega arith) (omega (arith, slice_get_within xs r.0 x r.1)) (sym (get_or_from_slice_get xs r.0 x 0 r.1)) in
        omega (arith, e)

    rest : AreDistinct xs
    rest i j i_within j_within same = let e = once (suc i) (suc j) (omega (arith, i_within)) (omega (arith, j_within)) same in omega (arith, e)

distinct_filter : (p : ℕ → Bool) (xs : List ℕ) → Distinct xs → Distinct (filter p xs)
distinct_filter p [] once = tt
distinct_filter p (x ∷ xs) once = by (p x) refl (distinct_filter p xs once.1)
  where
    by : (b : Bool) → p x ≡ b → Distinct (filter p xs) → Distinct (filter p (x ∷ xs))
    by true e rest = rw e (λ has. once.0 (from_filter p xs x has).0, rest)
    by false e rest = rw e rest

are_distinct : (xs : List ℕ) → Distinct xs → AreDistinct xs
are_distinct [] once i j i_within j_within same = absurd (omega (arith, i_within))
are_distinct (x ∷ xs) once zero zero i_within j_within same = refl
are_distinct (x ∷ xs) once zero (suc j) i_within j_within same = let lt : j < length xs = omega (arith, j_within) in absurd (once.0 (in_at xs j x (slice_get-get_or xs j 0 lt ∙ ap Some (sym same))))
are_distinct (x ∷ xs) once (suc i) zero i_within j_within same = let lt : i < length xs = omega (arith, i_within) in absurd (once.0 (in_at xs i x (slice_get-get_or xs i 0 lt ∙ ap Some same)))
are_distinct (x ∷ xs) once (suc i) (suc j) i_within j_within same = ap suc (are_distinct xs once.1 i j (omega (arith, i_within)) (omega (arith, j_within)) same)

pub filter_distinct : (p : ℕ → Bool) (xs : List ℕ) → AreDistinct xs → AreDistinct (filter p xs)
filter_distinct p xs once = are_distinct (filter p xs) (distinct_filter p xs (distinct_of xs once))
