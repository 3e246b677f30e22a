use Rattle.std.proofs.Common.{◌<◌, ◌≤◌, length, map, refl, ap, ◌∙◌, arith}
use Rattle.std.proofs.lemmas.List.{length-map}
use Rattle.net_core.specs.Weight.{saturated}
use Rattle.cal_ast.specs.Tree.{assignment_tree}
use Rattle.cal_check.specs.Weight.{assignment_weight}
use Rattle.cal_place.proofs.ListLemmas.{at_mapped}
use Rattle.cal_check.proofs.WeightLemmas.{line_step, sum_all}
use Rattle.cal_check.proofs.weight.sets_weight.Goals as goal

pub loop-set-init : goal.loop-set-init
loop-set-init c = λ names. refl

pub loop-set-preserved : goal.loop-set-preserved
loop-set-preserved c = λ names.
    let sets = c.args.sets.now in
    let k = c.loop-set.set-index in
    let within : k < length sets = omega arith in
    let at = at_mapped (assignment_tree names) sets sets k c.set-item.result refl within c.set-item.is in
    line_step assignment_weight (map (assignment_tree names) sets) k (assignment_tree names c.set-item.result) _ c.loop-set.weight c.saturating_add.result c.option_nodes.result c.saturating_add-weight.result at refl (c.loop-set.invariant names) c.saturating_add.ensures (c.option_nodes.ensures names) c.saturating_add-weight.ensures

pub returns : goal.returns
returns c = λ names.
    let sets = c.args.sets.now in
    let end : length (map (assignment_tree names) sets) ≤ c.loop-set.set-index = omega (arith, length-map sets (assignment_tree names)) in
    c.loop-set.invariant names ∙ ap saturated (sum_all assignment_weight (map (assignment_tree names) sets) c.loop-set.set-index end)
