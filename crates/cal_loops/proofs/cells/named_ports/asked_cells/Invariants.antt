use Rattle.std.proofs.Common.{◌≡◌, length}
use Rattle.cal_ast.specs.Tree.{design_of}
use Rattle.cal_loops.proofs.cells.named_ports.asked_cells.Given as goal

-- one for each component
abbrev pub invariant-loop-number : goal.invariant-loop-number
invariant-loop-number l = length l.asked.items ≡ length (design_of l.overview.design.now)
