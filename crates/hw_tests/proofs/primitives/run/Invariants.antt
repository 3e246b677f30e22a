use Rattle.std.proofs.Common.{◌≡◌}
use Rattle.hw_tests.proofs.primitives.run.Given as goal

-- the cell stays one of this primitive
abbrev pub invariant-loop-row : goal.invariant-loop-row
invariant-loop-row l = l.cell.prim ≡ l.prim
