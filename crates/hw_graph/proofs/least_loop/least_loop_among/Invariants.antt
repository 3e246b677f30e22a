use Rattle.std.proofs.Common.{length}
use Rattle.hw_graph.proofs.CycleLemmas.{mark_count}
use Rattle.hw_graph.specs.inside.Components.{LeavesNoCycle}
use Rattle.hw_graph.proofs.least_loop.least_loop_among.Given as goal

abbrev pub invariant-loop-port : goal.invariant-loop-port
invariant-loop-port l = LeavesNoCycle l.reads (length l.names) l.marks.items

abbrev pub decreases-loop-port : goal.decreases-loop-port
decreases-loop-port l = mark_count l.marks.items
