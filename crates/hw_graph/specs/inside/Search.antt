-- A search through a graph, depth first: what it has seen so far. This project's, for private functions alone.
use Rattle.std.specs.Prelude.{◌≡◌, ℕ, ◌+◌, ◌*◌, ◌<◌, ◌≤◌, ◌⊎◌, List, [], length, take, drop, sum, Contains, slice_index, slice_index_or}
use Rattle.hw_graph.specs.Graph.{HasRead, IsTrail}
use Rattle.hw_graph.specs.declared.search.Mark.{Mark}
use Rattle.hw_graph.specs.declared.search.Mark.TheVariants.{Unseen, Open, Done}
use Rattle.hw_graph.specs.declared.search.Search.{Search}

abbrev pub mark_of : List Mark → ℕ → Mark
mark_of marks port = slice_index_or marks port Unseen

-- the one port stands right before the other on the path
abbrev pub IsNext : List ℕ → ℕ → ℕ → Type 0
IsNext path port other = (i : ℕ) × (i + 1 < length path) × (slice_index path i ≡ port) × (slice_index path (i + 1) ≡ other)

-- the path from the root of the search to where it stands: the open ports
pub record IsPath (reads : List (List ℕ)) (marks : List Mark) (path : List ℕ) : Type 0 where
  pub trail : IsTrail reads path
  pub are_open : (i : ℕ) → i < length path → mark_of marks (slice_index path i) ≡ Open
  pub all_open : (port : ℕ) → mark_of marks port ≡ Open → Contains path port

-- the ports that are done are in order
pub record AreDone (reads : List (List ℕ)) (marks : List Mark) (order : List ℕ) : Type 0 where
  pub in_range : (i : ℕ) → i < length order → slice_index order i < length reads
  pub are_done : (i : ℕ) → i < length order → mark_of marks (slice_index order i) ≡ Done
  pub all_done : (port : ℕ) → mark_of marks port ≡ Done → Contains order port
  pub once : (i j : ℕ) → i < length order → j < length order → slice_index order i ≡ slice_index order j → i ≡ j
  pub after : (i port : ℕ) → i < length order → HasRead reads (slice_index order i) port → Contains (take i order) port

-- of the ports that a port reads the last ones are looked at: each is done, or stands next on the path
pub record AreLooked (reads : List (List ℕ)) (marks : List Mark) (left path : List ℕ) : Type 0 where
  pub at_most : (port : ℕ) → port < length reads → slice_index left port ≤ length (slice_index_or reads port [])
  pub each : (port j : ℕ) → port < length reads → slice_index left port ≤ j → j < length (slice_index_or reads port []) →
      (mark_of marks (slice_index (slice_index_or reads port []) j) ≡ Done) ⊎ IsNext path port (slice_index (slice_index_or reads port []) j)

pub record IsSearch (reads : List (List ℕ)) (s : Search) : Type 0 where
  pub all_marks : length s.marks.items ≡ length reads
  pub all_left : length s.left.items ≡ length reads
  pub path : IsPath reads s.marks.items s.path.items
  pub order : AreDone reads s.marks.items s.order.items
  pub looked : AreLooked reads s.marks.items s.left.items s.path.items

-- what is left to do: reads to look at, and ports to close
abbrev pub work_of : Search → ℕ
work_of s = 2 * sum s.left.items + length s.path.items

-- what was seen stays seen
abbrev pub KeepsSeen : Search → Search → Type 0
KeepsSeen old new = (port : ℕ) → mark_of new.marks.items port ≡ Unseen → mark_of old.marks.items port ≡ Unseen

-- the port has been reached
abbrev pub IsSeen : Search → ℕ → Type 0
IsSeen s port = mark_of s.marks.items port ≡ Unseen → ⊥

-- the end of the path from this port on
pub record IsTail (path : List ℕ) (port : ℕ) (tail : List ℕ) : Type 0 where
  pub place : ℕ
  pub within : place < length path
  pub at : slice_index path place ≡ port
  pub is : tail ≡ drop place path
