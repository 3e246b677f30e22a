use Rattle.std.proofs.Common.{◌≡◌, ◌++◌, take}
use Rattle.cal_group.specs.inside.Expansion.{taking_sets}
use Rattle.cal_group.proofs.expand.put_outputs.Given as goal

abbrev pub invariant-loop-bind : goal.invariant-loop-bind
invariant-loop-bind l = l.sets.items ≡ l.initial.sets.items ++ taking_sets l.call.cell (take l.bind-index l.bind-items)
