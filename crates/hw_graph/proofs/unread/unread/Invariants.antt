use Rattle.std.proofs.Common.{◌≡◌, ℕ, List, [], ◌<◌, get_or, length}
use Rattle.hw_graph.proofs.unread.unread.Given as goal

-- the reads of the first ports are counted
pub record AreCounted (reads : List (List ℕ)) (left : List ℕ) (n : ℕ) : Type 0 where
  pub all : length left ≡ n
  pub each : (port : ℕ) → port < n → get_or left port 0 ≡ length (get_or reads port [])

abbrev pub invariant-loop-port : goal.invariant-loop-port
invariant-loop-port l = AreCounted l.reads l.left.items l.port
