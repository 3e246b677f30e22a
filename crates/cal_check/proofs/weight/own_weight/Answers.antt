use Rattle.std.proofs.Common.{List, map, sum_by, ap, ◌∙◌, arith}
use Rattle.std.proofs.lemmas.List.{length-map}
use Rattle.net_core.specs.Weight.{saturated}
use Rattle.cal_ast.specs.Tree.{assignment_tree, cell_tree, component_tree, group_tree}
use Rattle.cal_ast.specs.declared.tree.Assign.{Assign}
use Rattle.cal_ast.specs.declared.tree.Group.{Group}
use Rattle.cal_check.specs.Weight.{assignment_weight, group_weight}
use Rattle.cal_check.proofs.WeightLemmas.{ports_counted}
use Rattle.cal_check.proofs.weight.own_weight.Goals as goal

pub returns : goal.returns
returns c = λ names shows.
    let comp = c.args.comp.now in
    let s = c.args.signature.now in
    let ports = ports_counted s (component_tree names comp) shows in
    let groups = c.groups_weight.ensures names ∙ ap (λ (l : List Group). saturated (sum_by group_weight (map (group_tree names) l))) c.deref.ensures.value in
    let sets = c.sets_weight.ensures names ∙ ap (λ (l : List Assign). saturated (sum_by assignment_weight (map (assignment_tree names) l))) c.deref-2.ensures.value in
    let control = c.control_weight-control.ensures names in
    omega (arith, ports, groups, sets, control, s.pins.ok.0, comp.cells.ok.0, length-map comp.cells.items (cell_tree names))
