use Rattle.std.proofs.Common.{◌<◌, length}
use Rattle.std.specs.Prelude.{All}
use Rattle.hw_levels.specs.declared.cells.CellPort.{CellPort}
use Rattle.cal_place.specs.Around.{comp_at, design_at}
use Rattle.cal_loops.proofs.CellPortLemmas.{AreFound}
use Rattle.cal_loops.proofs.levels.cell_ports.Given as goal

-- those with a number so far
abbrev pub invariant-loop-node : goal.invariant-loop-node
invariant-loop-node l = record {
  in_range : All (λ (port : CellPort). port.node < length l.graph.ports.keys) l.ports.items;
  found : AreFound (design_at l.place) (comp_at l.place) l.graph l.levels l.node l.ports.items;
}
