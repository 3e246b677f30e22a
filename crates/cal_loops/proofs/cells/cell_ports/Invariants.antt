use Rattle.cal_place.specs.Around.{comp_at, design_at}
use Rattle.cal_loops.proofs.CellPinLemmas.{AreCellPortsBelow}
use Rattle.cal_loops.proofs.cells.cell_ports.Given as goal

-- those of the nodes so far
abbrev pub invariant-loop-node : goal.invariant-loop-node
invariant-loop-node l = AreCellPortsBelow (design_at l.place) (comp_at l.place) l.graph l.node l.entries.items
