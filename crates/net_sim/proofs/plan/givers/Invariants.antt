use Rattle.std.proofs.Common.{◌≡◌, ◌++◌, drop}
use Rattle.net_core.specs.Netlist.{netlist_of}
use Rattle.net_sim.specs.Compiled.{givers_of, givers_from}
use Rattle.net_sim.proofs.plan.givers.Given as goal

abbrev pub invariant-loop-cell : goal.invariant-loop-cell
invariant-loop-cell l = l.givers.items ++ givers_from l.cell (drop l.cell l.cells) ≡ givers_of (netlist_of l.net) l.cells
