use Rattle.std.proofs.Common.{◌≡◌, ◌++◌, map}
use Rattle.std.specs.List.{range_with_len}
use Rattle.net_sim.specs.declared.plan.Giver.TheVariants.{Output}
use Rattle.net_sim.proofs.plan.add_outputs.Given as goal

abbrev pub invariant-loop-output : goal.invariant-loop-output
invariant-loop-output l = l.givers.items ≡ l.initial.givers.items ++ map (Output l.cell) (range_with_len 0 l.output)
