use Rattle.net_sim.specs.declared.cells.CellPorts.{CellPorts}
use Rattle.net_lanes.specs.Narrow.{has_wide_pin}
use Rattle.net_lanes.proofs.NarrowLemmas.{NoneUpto}
use Rattle.net_lanes.proofs.narrow.wide_cell.Given as goal

-- none of the cells so far has a port that is too wide
abbrev pub invariant-loop-place : goal.invariant-loop-place
invariant-loop-place l = NoneUpto (λ (cell : CellPorts). has_wide_pin cell.prim) l.place l.cells
