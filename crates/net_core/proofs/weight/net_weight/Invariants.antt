use Rattle.std.proofs.Common.{◌≡◌, ◌+◌, length, take, sum_by}
use Rattle.net_core.specs.Guard.{guard_option}
use Rattle.net_core.specs.Weight.{option_nodes, saturated}
use Rattle.net_core.specs.declared.net.NetAssign.{NetAssign}
use Rattle.net_core.proofs.weight.net_weight.Given as goal

abbrev pub invariant-loop-set : goal.invariant-loop-set
invariant-loop-set l =
    l.weight ≡ saturated (length l.net.cells.items + sum_by (λ (a : NetAssign). 1 + option_nodes (guard_option (λ id. id) a.guard)) (take l.set-index l.net.sets.items))
