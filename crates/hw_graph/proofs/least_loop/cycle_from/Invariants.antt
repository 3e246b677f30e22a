use Rattle.hw_graph.proofs.CycleLemmas.{IsSeeking}
use Rattle.hw_graph.specs.Walk.{work_left}
use Rattle.hw_graph.proofs.least_loop.cycle_from.Given as goal

abbrev pub invariant-loop-top : goal.invariant-loop-top
invariant-loop-top l = IsSeeking l.reads l.start l.walk

abbrev pub decreases-loop-top : goal.decreases-loop-top
decreases-loop-top l = work_left l.walk
