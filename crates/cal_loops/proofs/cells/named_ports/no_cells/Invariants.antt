use Rattle.std.proofs.Common.{◌≡◌, length}
use Rattle.cal_loops.proofs.cells.named_ports.no_cells.Given as goal

-- one for each component so far
abbrev pub invariant-loop : goal.invariant-loop
invariant-loop l = length l.asked.items ≡ l.counter
