use Rattle.std.specs.Prelude.{All}
use Rattle.hw_cells.proofs.GraphLemmas.{HasGraphOf}
use Rattle.cal_place.specs.Around.{comp_at, design_at}
use Rattle.cal_loops.proofs.CellLemmas.{AreCellsBelow}
use Rattle.cal_loops.proofs.PartGraphLemmas.{graph_in}
use Rattle.cal_loops.proofs.cells.cells_of.Given as goal

-- the cells so far
abbrev pub invariant-loop-number : goal.invariant-loop-number
invariant-loop-number l = record {
  cells : AreCellsBelow (design_at l.place) (comp_at l.place) l.graph l.number l.cells.items;
  graphs : All (HasGraphOf (graph_in l.insides)) l.cells.items;
}
