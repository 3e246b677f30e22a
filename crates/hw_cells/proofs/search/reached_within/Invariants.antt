use Rattle.hw_cells.proofs.SearchLemmas.{IsSearched}
use Rattle.hw_cells.proofs.search.reached_within.Given as goal

abbrev pub invariant-loop-next : goal.invariant-loop-next
invariant-loop-next l = IsSearched l.reads l.start l.nodes.keys l.next

abbrev pub decreases-loop-next : goal.decreases-loop-next
decreases-loop-next l = l.left
