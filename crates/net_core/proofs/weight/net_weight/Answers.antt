use Rattle.std.proofs.Common.{◌≡◌, ◌+◌, length, take, sum_by, ap, sym, ◌∙◌, arith}
use Rattle.std.proofs.Math.Seq.{take-length}
use Rattle.net_core.specs.Guard.{guard_option}
use Rattle.net_core.specs.Weight.{option_nodes, saturated}
use Rattle.net_core.specs.declared.net.NetAssign.{NetAssign}
use Rattle.net_core.proofs.GuardLemmas.{weight_of-netlist_of}
use Rattle.net_core.proofs.weight.net_weight.Goals as goal

pub returns : goal.returns
returns c =
    let net = c.args.net.now in
    let sets = net.sets.items in
    let weight = λ (a : NetAssign). 1 + option_nodes (guard_option (λ id. id) a.guard) in
    let count = length net.cells.items in
    let end : c.loop-set.set-index ≡ length sets = omega (arith, ap length c.deref-set-items.ensures.value) in
    c.loop-set.invariant ∙ ap (λ k. saturated (count + sum_by weight (take k sets))) end
    ∙ ap (λ items. saturated (count + sum_by weight items)) (take-length sets)
    ∙ ap saturated (sym (weight_of-netlist_of net))
