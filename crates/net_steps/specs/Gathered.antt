-- Inputs of a cell gathered from slots. This project's.
use Rattle.std.specs.Prelude.{ℕ, List, [], ◌∷◌, slice_index}
use Rattle.hw_bits.specs.Width.{low_bits}

-- for each width, what its slot holds, by that width
abbrev pub gathered : List ℕ → List ℕ → List ℕ → List ℕ
gathered slots places [] = []
gathered slots [] (w ∷ widths) = []
gathered slots (p ∷ places) (w ∷ widths) = low_bits w (slice_index slots p) ∷ gathered slots places widths
