use Rattle.std.proofs.Common.{◌≡◌, length}
use Rattle.net_tests.proofs.rows.check_rows.Given as goal

abbrev pub invariant-loop-row : goal.invariant-loop-row
invariant-loop-row l = (l.sim.net ≡ l.net) × (length l.sim.values ≡ length l.table.names)
