use Rattle.hw_graph.proofs.ByNameLemmas.{IsLeastSoFar}
use Rattle.hw_graph.proofs.by_name.least_marked.Given as goal

abbrev pub invariant-loop-port : goal.invariant-loop-port
invariant-loop-port l = IsLeastSoFar l.names l.marks l.port l.least
