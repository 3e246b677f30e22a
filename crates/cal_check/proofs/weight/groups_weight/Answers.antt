use Rattle.std.proofs.Common.{◌<◌, ◌≤◌, List, length, map, sum_by, refl, ap, ◌∙◌, arith}
use Rattle.std.proofs.lemmas.List.{length-map}
use Rattle.net_core.specs.Weight.{saturated}
use Rattle.cal_ast.specs.Tree.{assignment_tree, done_tree, group_tree}
use Rattle.cal_ast.specs.declared.tree.Assign.{Assign}
use Rattle.cal_ast.specs.declared.tree.DoneSet.{DoneSet}
use Rattle.cal_check.specs.Weight.{assignment_weight, done_weight, group_weight}
use Rattle.cal_place.proofs.ListLemmas.{at_mapped}
use Rattle.cal_check.proofs.WeightLemmas.{both_counted, sum_all, sum_step}
use Rattle.cal_check.proofs.weight.groups_weight.Goals as goal

pub loop-group-init : goal.loop-group-init
loop-group-init c = λ names. refl

pub loop-group-preserved : goal.loop-group-preserved
loop-group-preserved c = λ names.
    let groups = c.args.groups.now in
    let k = c.loop-group.group-index in
    let g = c.group-item.result in
    let within : k < length groups = omega arith in
    let at = at_mapped (group_tree names) groups groups k g refl within c.group-item.is in
    let sets = c.sets_weight.ensures names ∙ ap (λ (l : List Assign). saturated (sum_by assignment_weight (map (assignment_tree names) l))) c.deref.ensures.value in
    let dones = c.dones_weight.ensures names ∙ ap (λ (l : List DoneSet). saturated (sum_by done_weight (map (done_tree names) l))) c.deref-in-loop-group.ensures.value in
    let lines = both_counted c.sets_weight.result c.dones_weight.result _ _ c.saturating_add-lines.result sets dones c.saturating_add-lines.ensures in
    sum_step group_weight (map (group_tree names) groups) k (group_tree names g) c.loop-group.weight c.saturating_add-lines.result c.saturating_add-weight.result at (c.loop-group.invariant names) lines c.saturating_add-weight.ensures

pub returns : goal.returns
returns c = λ names.
    let groups = c.args.groups.now in
    let end : length (map (group_tree names) groups) ≤ c.loop-group.group-index = omega (arith, length-map groups (group_tree names)) in
    c.loop-group.invariant names ∙ ap saturated (sum_all group_weight (map (group_tree names) groups) c.loop-group.group-index end)
