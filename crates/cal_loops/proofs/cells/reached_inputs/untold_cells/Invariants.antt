use Rattle.std.proofs.Common.{All, length}
use Rattle.hw_cells.specs.Cells.{IsAskable}
use Rattle.cal_loops.proofs.cells.reached_inputs.untold_cells.Given as goal

-- so far each can be asked of
abbrev pub invariant-loop-cell : goal.invariant-loop-cell
invariant-loop-cell l = All (IsAskable (length l.graph.reads)) l.untold_cells.cells.items
