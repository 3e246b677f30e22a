-- Ports that are gathered once each, with a mark for those that are. This project's, for private functions alone.
use Rattle.std.specs.Prelude.{◌≡◌, ℕ, ◌<◌, ◌≤◌, ◌⊎◌, Bool, true, List, length, Contains, slice_index}
use Rattle.hw_graph.specs.Graph.{AreDistinct}
use Rattle.hw_graph.specs.Walk.{is_seen}

-- exactly these ports have a mark
pub record AreMarked (marks : List Bool) (ports : List ℕ) : Type 0 where
  pub in_range : (i : ℕ) → i < length ports → slice_index ports i < length marks
  pub once : AreDistinct ports
  pub marked : (port : ℕ) → Contains ports port → is_seen marks port ≡ true
  pub others : (port : ℕ) → is_seen marks port ≡ true → Contains ports port

-- the list goes on with some of these ports, and has the first k of them
pub record HasAdded (k : ℕ) (ports old new : List ℕ) : Type 0 where
  pub longer : length old ≤ length new
  pub kept : (i : ℕ) → i < length old → slice_index new i ≡ slice_index old i
  pub from : (port : ℕ) → Contains new port → Contains old port ⊎ Contains ports port
  pub all : (i : ℕ) → i < k → Contains new (slice_index ports i)
