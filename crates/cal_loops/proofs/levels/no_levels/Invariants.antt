use Rattle.std.proofs.Common.{◌≡◌, length}
use Rattle.cal_loops.proofs.levels.no_levels.Given as goal

-- one for each component so far
abbrev pub invariant-loop : goal.invariant-loop
invariant-loop l = length l.levels.items ≡ l.counter
