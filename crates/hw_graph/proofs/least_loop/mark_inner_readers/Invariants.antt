use Rattle.hw_graph.specs.inside.Components.{LeavesNoCycle}
use Rattle.hw_graph.proofs.least_loop.mark_inner_readers.Given as goal

abbrev pub invariant-loop-port : goal.invariant-loop-port
invariant-loop-port l = LeavesNoCycle l.reads l.port l.marks.items
