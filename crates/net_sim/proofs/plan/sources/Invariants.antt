use Rattle.net_core.specs.Netlist.{netlist_of}
use Rattle.net_sim.proofs.SourceLemmas.{AreSoFar}
use Rattle.net_sim.proofs.plan.sources.Given as goal

abbrev pub invariant-loop-set : goal.invariant-loop-set
invariant-loop-set l = AreSoFar (netlist_of l.net) l.set-index l.sources.items
