use Rattle.std.proofs.Common.{◌≡◌, length}
use Rattle.hw_tests.proofs.graphs.all_reached.Given as goal

abbrev pub invariant-loop-start : goal.invariant-loop-start
invariant-loop-start l = l.reach ≡ length l.graph
