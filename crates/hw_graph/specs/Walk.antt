-- A walk through a graph, depth first: what it has reached so far. This project's, for private functions alone.
use Rattle.std.specs.Prelude.{◌≡◌, ℕ, ◌+◌, ◌-◌, ◌*◌, ◌<◌, ◌≤◌, ◌⊎◌, Bool, true, false, List, [], ◌∷◌, ◌++◌, length, take, sum, Option, Some, None, Contains}
use Rattle.std.specs.Prelude.{MatchBool, slice_index, slice_index_or, slice_set}
use Rattle.hw_graph.specs.Graph.{IsTrail}
use Rattle.hw_graph.specs.inside.Unread.{TakesRead}
use Rattle.hw_graph.specs.declared.walk.Walk.{Walk}

-- the port was reached
abbrev pub is_seen : List Bool → ℕ → Bool
is_seen seen port = slice_index_or seen port false

-- the reads that were looked at were reached; a port with others that are left stands on the path
pub record HasReached (reads : List (List ℕ)) (seen : List Bool) (left path : List ℕ) : Type 0 where
  pub all_seen : length seen ≡ length reads
  pub all_left : length left ≡ length reads
  pub trail : IsTrail reads path
  pub on_path : (i : ℕ) → i < length path → is_seen seen (slice_index path i) ≡ true
  pub at_most : (port : ℕ) → port < length reads → slice_index left port ≤ length (slice_index_or reads port [])
  pub reached : (port j : ℕ) → port < length reads → slice_index left port ≤ j → j < length (slice_index_or reads port []) →
      is_seen seen (slice_index (slice_index_or reads port []) j) ≡ true
  pub finished : (port : ℕ) → is_seen seen port ≡ true → (slice_index left port ≡ 0) ⊎ Contains path port

abbrev pub IsWalk : List (List ℕ) → Walk → Type 0
IsWalk reads w = HasReached reads w.seen.items w.left.items w.path.items

-- what is left to do: reads to look at, and ports to go back from
abbrev pub work_left : Walk → ℕ
work_left w = 2 * sum w.left.items + length w.path.items

-- the walk goes on to the port where it was not reached
abbrev pub GoesTo : Walk → Walk → ℕ → Type 0
GoesTo old new port =
    MatchBool (is_seen old.seen.items port)
    ((new.seen.items ≡ old.seen.items) × (new.path.items ≡ old.path.items))
    ((new.seen.items ≡ slice_set old.seen.items port true) × (new.path.items ≡ old.path.items ++ port ∷ []))

-- a step from the last port on the path: its next read is looked at, or none is left and the walk goes back
abbrev pub IsStep : List (List ℕ) → Walk → Walk → ℕ → Option ℕ → Type 0
IsStep reads old new top (Some read) = TakesRead (slice_index_or reads top []) old.left.items top read new.left.items × GoesTo old new read
IsStep reads old new top None =
    (slice_index old.left.items top ≡ 0) × (new.left.items ≡ old.left.items)
    × (new.seen.items ≡ old.seen.items) × (new.path.items ≡ take (length old.path.items - 1) old.path.items)
