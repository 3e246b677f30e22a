use Rattle.std.proofs.Common.{List}
use Rattle.hw_names.specs.Name.{Text}
use Rattle.net_core.specs.Guard.{GuardTree}
use Rattle.net_flat.specs.inside.StandFor.{IsGuard, negations}
use Rattle.net_flat.proofs.guards.negate.Given as goal

abbrev pub invariant-loop : goal.invariant-loop
invariant-loop l = (names : List Text) (tree : GuardTree Text) → IsGuard names tree l.fn.guard → IsGuard names (negations l.counter tree) l.negated
