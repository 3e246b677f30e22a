use Rattle.std.proofs.Common.{All}
use Rattle.hw_cells.proofs.GraphLemmas.{HasGraphOf}
use Rattle.fil_loops.proofs.CellLemmas.{AreCellsBelow, graph_in}
use Rattle.fil_loops.proofs.cells.cells_of.Given as goal

-- the cells so far, each with the graph of its component
abbrev pub invariant-loop-instance : goal.invariant-loop-instance
invariant-loop-instance l = record {
  cells : AreCellsBelow l.parts l.insides l.ports l.instance l.cells.items;
  graphs : All (HasGraphOf (graph_in l.insides)) l.cells.items;
}
