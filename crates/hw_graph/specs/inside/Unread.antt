-- How many of each port's reads a search has not looked at; it looks at the last first. This project's, for private functions alone.
use Rattle.std.specs.Prelude.{◌≡◌, ℕ, ◌+◌, ◌<◌, List, [], length, slice_index, slice_index_or, slice_set}

-- all reads of each port are left
pub record AreUnread (reads : List (List ℕ)) (left : List ℕ) : Type 0 where
  pub all : length left ≡ length reads
  pub each : (port : ℕ) → port < length reads → slice_index left port ≡ length (slice_index_or reads port [])

-- the last of the reads that were left is taken
pub record TakesRead (reads left : List ℕ) (port read : ℕ) (left' : List ℕ) : Type 0 where
  pub place : ℕ
  pub was : slice_index left port ≡ place + 1
  pub is : read ≡ slice_index reads place
  pub within : place < length reads
  pub now : left' ≡ slice_set left port place
