use Rattle.std.proofs.Common.{List, None, map, slice_get, ap, sym, subst, ◌∙◌}
use Rattle.std.specs.Prelude.{All}
use Rattle.hw_names.specs.Name.{Text}
use Rattle.cal_ast.specs.Items.{control_statements}
use Rattle.cal_ast.specs.Numbers.{GroupHasNumbers, SetHasNumbers}
use Rattle.cal_ast.specs.Tree.{Assignment, Component, ControlSection, GroupDef, assignment_tree, group_tree}
use Rattle.cal_place.specs.Around.{comp_at, design_at, names_at}
use Rattle.cal_wires.specs.Readings.{AddsGroups, ReadsSets, groups_invoked}
use Rattle.cal_wires.specs.WireGraphs.{Grows}
use Rattle.cal_wires.proofs.SaidLemmas.{own_graph}
use Rattle.cal_wires.proofs.readings.text_graph.Goals as goal

pub add_sets-requires : goal.add_sets-requires
add_sets-requires c = record { names = c.in_ok-add_inputs.ensures.grows.adds.names ∙ c.new-graph.ensures.names ∙ c.names.ensures; sets = subst (All (SetHasNumbers (names_at c.args.place.now))) (sym c.deref.ensures.value) c.comp-comp.ensures.numbers.sets; hole = tt }

pub add_groups-requires : goal.add_groups-requires
add_groups-requires c = record { names = c.in_ok-add_sets.ensures.adds.names ∙ c.in_ok-add_inputs.ensures.grows.adds.names ∙ c.new-graph.ensures.names ∙ c.names.ensures; groups = subst (All (GroupHasNumbers (names_at c.args.place.now))) (sym c.deref-2.ensures.value) c.comp-comp.ensures.numbers.groups }

pub add_control-requires : goal.add_control-requires
add_control-requires c = record { names = c.in_ok-add_groups.ensures.adds.names ∙ c.in_ok-add_sets.ensures.adds.names ∙ c.in_ok-add_inputs.ensures.grows.adds.names ∙ c.new-graph.ensures.names ∙ c.names.ensures; control = c.comp-comp.ensures.numbers.control }

pub add_primitives-requires : goal.add_primitives-requires
add_primitives-requires c = record {
  names = c.in_ok-add_control.ensures.adds.names ∙ c.in_ok-add_groups.ensures.adds.names ∙ c.in_ok-add_sets.ensures.adds.names ∙ c.in_ok-add_inputs.ensures.grows.adds.names ∙ c.new-graph.ensures.names ∙ c.names.ensures;
  kept = c.requires.kept;
}

pub returns-clause-reads : goal.returns-clause-reads
returns-clause-reads c =
    let p = c.args.place.now in
    let d = design_at p in
    let names = names_at p in
    let comp = c.comp-comp.result.now in
    let tree = c.comp-comp.ensures.comp in
    let g0 = c.new-graph.result in
    let g1 = c.add_inputs.new.graph in
    let g2 = c.add_sets.new.graph in
    let g3 = c.add_groups.new.graph in
    let g4 = c.add_control.new.graph in
    let sets = subst (λ (as' : List Assignment). Grows (ReadsSets None as') g1 g2) (ap (map (assignment_tree names)) c.deref.ensures.value ∙ ap (λ (x : Component). x.sets) tree) c.in_ok-add_sets.ensures in
    let groups = subst (λ (gs : List GroupDef). AddsGroups d (comp_at p) gs g2 g3) (ap (map (group_tree names)) c.deref-2.ensures.value ∙ ap (λ (x : Component). x.groups) tree) c.in_ok-add_groups.ensures in
    let control = subst (λ (s : ControlSection). AddsGroups d (comp_at p) (groups_invoked d (comp_at p) (control_statements s)) g3 g4) (ap (λ (x : Component). x.control) tree) c.in_ok-add_control.ensures in
    own_graph d (comp_at p) g0 g1 g2 g3 g4 c.add_primitives.new.graph c.new-graph.ensures.keys c.new-graph.ensures.entries c.new-graph.ensures.holes c.in_ok-add_inputs.ensures.grows sets groups control c.in_ok-add_primitives.ensures

pub returns-clause-inputs : goal.returns-clause-inputs
returns-clause-inputs c i text at =
    let first = ap (λ (l : List Text). slice_get l i) c.in_ok-add_inputs.ensures.inputs ∙ at in
    c.in_ok-add_primitives.ensures.adds.texts i text (c.in_ok-add_control.ensures.adds.texts i text (c.in_ok-add_groups.ensures.adds.texts i text (c.in_ok-add_sets.ensures.adds.texts i text first)))
