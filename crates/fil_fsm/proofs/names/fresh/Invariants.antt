use Rattle.std.proofs.Common.{◌≡◌}
use Rattle.fil_fsm.proofs.names.fresh.Given as goal

abbrev pub invariant-loop-number : goal.invariant-loop-number
invariant-loop-number l = l.names ≡ l.fn.names
