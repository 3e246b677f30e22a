use Rattle.std.proofs.Common.{◌≡◌, ◌++◌, take}
use Rattle.cal_group.specs.inside.Expansion.{binding_sets}
use Rattle.cal_group.proofs.expand.put_inputs.Given as goal

abbrev pub invariant-loop-bind : goal.invariant-loop-bind
invariant-loop-bind l = l.sets.items ≡ l.initial.sets.items ++ binding_sets l.call.cell (take l.bind-index l.bind-items)
