use Rattle.std.proofs.Common.{◌≡◌}
use Rattle.row_tests.specs.Pairs.{IsPair}
use Rattle.row_tests.proofs.rows.different_row.Given as goal

abbrev pub invariant-loop-row : goal.invariant-loop-row
invariant-loop-row l = IsPair l.pair.ports l.pair.shown l.pair.plain l.pair.flat × (l.pair.plain.net ≡ l.net)
