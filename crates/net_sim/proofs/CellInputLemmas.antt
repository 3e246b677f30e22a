-- Parts of lists that are made of others.
use Rattle.std.proofs.Common.{◌≡◌, ℕ, ◌-◌, List, take, drop, map, sym, ap, ◌∙◌}
use Rattle.std.specs.Prelude.{slice_range}
use Rattle.std.proofs.lemmas.List.{take-map, drop-map}

-- a part of a list with each element seen by f
pub cut_of_map : {X : Type 0} (f : X → ℕ) (xs : List X) (from to : ℕ) → map f (slice_range xs from to) ≡ slice_range (map f xs) from to
cut_of_map f xs from to = sym (take-map f (to - from) (drop from xs)) ∙ ap (take (to - from)) (sym (drop-map f from xs))
