use Rattle.net_core.specs.Netlist.{netlist_of}
use Rattle.net_sim.proofs.CellLemmas.{AreListed}
use Rattle.net_sim.proofs.cells.cell_ports.Given as goal

abbrev pub invariant-loop-cell : goal.invariant-loop-cell
invariant-loop-cell l = AreListed (netlist_of l.net) l.cell-index l.cells.items l.first
