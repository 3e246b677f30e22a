use Rattle.net_core.specs.Netlist.{netlist_of}
use Rattle.net_sim.proofs.FlattenLemmas.{AreGuardsSoFar}
use Rattle.net_sim.proofs.flatten.flatten.Given as goal

abbrev pub invariant-loop-set : goal.invariant-loop-set
invariant-loop-set l = AreGuardsSoFar (netlist_of l.net) l.set-index l.tests.items l.starts.items
