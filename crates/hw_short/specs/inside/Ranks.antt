-- Numbers of texts that stand in the order of the texts' bytes. This project's.
use Rattle.std.specs.Prelude.{◌≡◌, ◌≢◌, ℕ, ◌<◌, ◌≤◌, List, [], length, slice_index, slice_index_or, Vec}
use Rattle.std.specs.Cmp.Lexicographic.{slice_cmp}
use Rattle.std.specs.List.Sorted.{IsSorted}
use Rattle.std.specs.Ordering.{nat_cmp}
use Rattle.std.specs.declared.alloc.Global.{Global}
use Rattle.std.specs.declared.cmp.Ordering.TheVariants.{Less, Equal}
use Rattle.hw_names.specs.Name.{Text}

-- the texts stand in the order of their bytes
abbrev pub AreSorted : List (Vec ℕ Global) → Type 0
AreSorted texts = IsSorted (λ (s t : Vec ℕ Global). slice_cmp nat_cmp s.items t.items) texts

-- so many of the sorted texts are less than this one
pub record IsRank (sorted : List (Vec ℕ Global)) (text : Text) (rank : ℕ) : Type 0 where
  pub within : rank ≤ length sorted
  pub below : (k : ℕ) (d : Vec ℕ Global) → k < rank → slice_cmp nat_cmp (slice_index_or sorted k d).items text ≡ Less
  pub above : (k : ℕ) (d : Vec ℕ Global) → rank ≤ k → k < length sorted → slice_cmp nat_cmp (slice_index_or sorted k d).items text ≢ Less

-- this of each of the texts
pub record HaveRanks (sorted texts : List (Vec ℕ Global)) (ranks : List ℕ) : Type 0 where
  pub sized : length ranks ≡ length texts
  pub each : (i : ℕ) (d : Vec ℕ Global) → i < length texts → IsRank sorted (slice_index_or texts i d).items (slice_index ranks i)

-- the numbers of texts tell their order
pub record TellTexts (texts : List Text) (ranks : List ℕ) : Type 0 where
  pub sized : length ranks ≡ length texts
  pub few : (i : ℕ) → i < length texts → slice_index ranks i < length texts
  pub less : (i j : ℕ) → i < length texts → j < length texts → slice_index ranks i < slice_index ranks j →
      slice_cmp nat_cmp (slice_index_or texts i []) (slice_index_or texts j []) ≡ Less
  pub same : (i j : ℕ) → i < length texts → j < length texts → slice_index ranks i ≡ slice_index ranks j →
      slice_cmp nat_cmp (slice_index_or texts i []) (slice_index_or texts j []) ≡ Equal
