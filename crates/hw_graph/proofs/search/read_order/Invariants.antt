use Rattle.std.proofs.Common.{◌≡◌, ℕ, ◌<◌, List, []}
use Rattle.hw_graph.specs.inside.Search.{IsSearch, IsSeen}
use Rattle.hw_graph.specs.declared.search.Search.{Search}
use Rattle.hw_graph.proofs.search.read_order.Given as goal

-- the ports below this one are seen
pub record IsGoing (reads : List (List ℕ)) (s : Search) (port : ℕ) : Type 0 where
  pub search : IsSearch reads s
  pub empty : s.path.items ≡ []
  pub seen : (k : ℕ) → k < port → IsSeen s k

abbrev pub invariant-loop-port : goal.invariant-loop-port
invariant-loop-port l = IsGoing l.reads l.search l.port
