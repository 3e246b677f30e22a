use Rattle.std.proofs.Common.{◌≤◌}
use Rattle.net_core.specs.declared.net.Guard.{size-Guard}
use Rattle.net_core.proofs.net.Guard.+drop.Given as goal

-- what is left is no deeper
abbrev pub invariant-loop-self : goal.invariant-loop-self
invariant-loop-self g l = size-Guard _ l.self ≤ size-Guard _ l.fn.self
