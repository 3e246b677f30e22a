use Rattle.std.proofs.Common.{◌≡◌, length}
use Rattle.net_row.proofs.slots.first_tests.Given as goal

abbrev pub invariant-loop-start : goal.invariant-loop-start
invariant-loop-start l = length l.places.items ≡ l.start-index
