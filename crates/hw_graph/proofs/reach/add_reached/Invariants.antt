use Rattle.std.proofs.Common.{◌-◌, length}
use Rattle.hw_graph.proofs.ReachLemmas.{IsReaching}
use Rattle.hw_graph.proofs.reach.add_reached.Given as goal

abbrev pub invariant-loop-next : goal.invariant-loop-next
invariant-loop-next l = IsReaching l.reads l.start l.marks l.reached.items l.next

abbrev pub decreases-loop-next : goal.decreases-loop-next
decreases-loop-next l = length l.reads - l.next
