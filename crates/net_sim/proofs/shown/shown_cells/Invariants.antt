use Rattle.net_core.specs.Netlist.{netlist_of}
use Rattle.net_sim.proofs.ShownLemmas.{AreShownSoFar}
use Rattle.net_sim.proofs.shown.shown_cells.Given as goal

abbrev pub invariant-loop-number : goal.invariant-loop-number
invariant-loop-number l = AreShownSoFar (netlist_of l.net) l.number l.shown.items
