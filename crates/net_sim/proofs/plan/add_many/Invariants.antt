use Rattle.std.proofs.Common.{◌≡◌, ◌++◌, replicate}
use Rattle.net_sim.proofs.plan.add_many.Given as goal

abbrev pub invariant-loop-made : goal.invariant-loop-made
invariant-loop-made l = l.givers.items ≡ l.initial.givers.items ++ replicate l._made l.giver
