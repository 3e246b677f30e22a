-- What several nodes of a graph reach, told by the bits of words, one word for each node. This project's, for private functions alone.
use Rattle.std.specs.Prelude.{◌≡◌, ◌↔◌, ℕ, ◌<◌, List, length, slice_get, slice_index, Some}
use Rattle.hw_cells.specs.Cells.{HasBit, IsOrReaches}

-- the k-th bit stands in the word of the k-th start alone
abbrev pub TellStarts : List ℕ → List ℕ → Type 0
TellStarts starts words = (bit node : ℕ) → HasBit (slice_index words node) bit ↔ (slice_get starts bit ≡ Some node)

-- the k-th bit stands in the words of the k-th start and of all that it reaches
abbrev pub TellReached : List (List ℕ) → List ℕ → List ℕ → Type 0
TellReached reads starts words =
    (bit node : ℕ) → bit < length starts → HasBit (slice_index words node) bit ↔ IsOrReaches reads (slice_index starts bit) node
