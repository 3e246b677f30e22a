use Rattle.net_steps.proofs.EdgeLemmas.{AreSteppedUpto}
use Rattle.net_steps.proofs.edge.step_others.Given as goal

abbrev pub invariant-loop-number : goal.invariant-loop-number
invariant-loop-number l = AreSteppedUpto l.places l.slots l.number l.fn.others l.others
