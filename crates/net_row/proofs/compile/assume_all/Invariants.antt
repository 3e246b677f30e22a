use Rattle.std.proofs.Common.{◌≡◌}
use Rattle.net_row.proofs.compile.assume_all.Given as goal

abbrev pub invariant-loop-equality : goal.invariant-loop-equality
invariant-loop-equality l = l.steps.base ≡ l.fn.steps.base
