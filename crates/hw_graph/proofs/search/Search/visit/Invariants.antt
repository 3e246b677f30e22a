use Rattle.std.proofs.Common.{ℕ, List}
use Rattle.hw_graph.specs.declared.search.Search.{Search}
use Rattle.hw_graph.specs.inside.Search.{IsSearch, IsSeen, KeepsSeen, work_of}
use Rattle.hw_graph.proofs.search.Search.visit.Given as goal

-- the search goes on, and the port is seen
pub record IsVisiting (reads : List (List ℕ)) (old now : Search) (port : ℕ) : Type 0 where
  pub search : IsSearch reads now
  pub seen : IsSeen now port
  pub kept : KeepsSeen old now

abbrev pub invariant-loop-top : goal.invariant-loop-top
invariant-loop-top l = IsVisiting l.reads l.fn.self l.self l.port

abbrev pub decreases-loop-top : goal.decreases-loop-top
decreases-loop-top l = work_of l.self
