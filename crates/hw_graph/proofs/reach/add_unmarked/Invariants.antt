use Rattle.hw_graph.specs.Reach.{AreMarked, HasAdded}
use Rattle.hw_graph.proofs.reach.add_unmarked.Given as goal

abbrev pub invariant-loop-port : goal.invariant-loop-port
invariant-loop-port l = AreMarked l.marks l.reached.items × HasAdded l.port-index l.ports l.fn.reached.items l.reached.items
