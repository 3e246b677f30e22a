use Rattle.std.proofs.Common.{◌<◌, ◌≤◌, length, map, refl, ap, ◌∙◌, arith}
use Rattle.std.proofs.lemmas.List.{length-map}
use Rattle.net_core.specs.Weight.{saturated}
use Rattle.cal_ast.specs.Tree.{done_tree}
use Rattle.cal_check.specs.Weight.{done_weight}
use Rattle.cal_place.proofs.ListLemmas.{at_mapped}
use Rattle.cal_check.proofs.WeightLemmas.{line_step, sum_all}
use Rattle.cal_check.proofs.weight.dones_weight.Goals as goal

pub loop-done-init : goal.loop-done-init
loop-done-init c = λ names. refl

pub loop-done-preserved : goal.loop-done-preserved
loop-done-preserved c = λ names.
    let dones = c.args.dones.now in
    let k = c.loop-done.done-index in
    let within : k < length dones = omega arith in
    let at = at_mapped (done_tree names) dones dones k c.done-item.result refl within c.done-item.is in
    line_step done_weight (map (done_tree names) dones) k (done_tree names c.done-item.result) _ c.loop-done.weight c.saturating_add.result c.option_nodes.result c.saturating_add-weight.result at refl (c.loop-done.invariant names) c.saturating_add.ensures (c.option_nodes.ensures names) c.saturating_add-weight.ensures

pub returns : goal.returns
returns c = λ names.
    let dones = c.args.dones.now in
    let end : length (map (done_tree names) dones) ≤ c.loop-done.done-index = omega (arith, length-map dones (done_tree names)) in
    c.loop-done.invariant names ∙ ap saturated (sum_all done_weight (map (done_tree names) dones) c.loop-done.done-index end)
