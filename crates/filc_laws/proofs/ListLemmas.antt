-- Beginnings of lists, and what stands past their ends.
use Rattle.std.proofs.Common.{◌≡◌, ℕ, zero, suc, ◌≤◌, Bool, true, false, List, [], ◌∷◌, length, take, Some, None, refl, ap, arith}
use Rattle.std.specs.Prelude.{slice_get}
use Rattle.std.specs.List.{list_all}
use Rattle.std.proofs.lemmas.Bool.{and_parts}
use Rattle.std.proofs.lemmas.Option.{slice_get_within}

pub take_less : {X : Type 0} (j n : ℕ) (xs : List X) → j ≤ n → take j (take n xs) ≡ take j xs
take_less zero n xs less = refl
take_less (suc j) zero xs less = absurd (omega arith)
take_less (suc j) (suc n) [] less = refl
take_less (suc j) (suc n) (x ∷ xs) less = ap (λ ys. x ∷ ys) (take_less j n xs (omega arith))

-- nothing stands past the end
pub past : {X : Type 0} (xs : List X) (k : ℕ) → length xs ≤ k → slice_get xs k ≡ None
past [] k far = refl
past (x ∷ xs) zero far = absurd (omega arith)
past (x ∷ xs) (suc k) far = past xs k (omega arith)

pub nothing_past : {X : Type 0} (xs : List X) (k : ℕ) (x : X) → length xs ≤ k → slice_get xs k ≡ Some x → ⊥
nothing_past xs k x far at = omega (arith, slice_get_within xs k x at)

-- where all are kept, none is broken
pub none_broken : (kept : List Bool) → list_all (λ b. b) kept ≡ true → (k : ℕ) → slice_get kept k ≡ Some false → ⊥
none_broken [] all k at = cc
none_broken (b ∷ kept) all zero at = let here = and_parts b (list_all (λ b. b) kept) all in let first : b ≡ true = here.0 in cc
none_broken (b ∷ kept) all (suc k) at = none_broken kept (and_parts b (list_all (λ b. b) kept) all).1 k at
