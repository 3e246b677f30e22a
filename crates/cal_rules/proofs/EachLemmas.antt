-- A test of each element of a list, one after another.
use Rattle.std.proofs.Common.{ℕ, ◌+◌, ◌<◌, ◌≤◌, true, false, ◌↔◌, List, length, map, take, get_or, All, subst}
use Rattle.std.specs.Bool.{IsTrue}
use Rattle.std.proofs.lemmas.List.{take_all}
use Rattle.std.proofs.lemmas.List.Elements.{All-more, All-get_or}
use Rattle.cal_place.proofs.ListLemmas.{All-mapped, All-unmap, told_false, told_true}

module _ {X Y : Type 0} (P : Y → Type 0) (f : X → Y) (xs : List X) (i : ℕ) (x : X) where
  -- one fails
  pub each_fails : i < length xs → (P (f (get_or xs i x)) → ⊥) → IsTrue false ↔ All P (map f xs)
  each_fails within not_so = told_false (All P (map f xs)) (λ all. not_so (All-get_or (λ y. P (f y)) xs i x within (All-unmap P f xs all)))

  -- one more passes
  pub each_more : i < length xs → All (λ y. P (f y)) (take i xs) → P (f (get_or xs i x)) → All (λ y. P (f y)) (take (i + 1) xs)
  each_more within so_far here = All-more (λ y. P (f y)) xs i x within so_far here

-- all pass
pub each_passes : {X Y : Type 0} (P : Y → Type 0) (f : X → Y) (xs : List X) (i : ℕ) → length xs ≤ i → All (λ y. P (f y)) (take i xs) → IsTrue true ↔ All P (map f xs)
each_passes P f xs i end so_far =
    let A : List _ → Type 0 = All (λ y. P (f y)) in
    told_true (All P (map f xs)) (All-mapped P f xs (subst A (take_all i xs end) so_far))
