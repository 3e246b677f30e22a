use Rattle.std.proofs.Common.{List, Some, map, sym, subst, ◌∙◌}
use Rattle.std.specs.Prelude.{All, OnOk}
use Rattle.std.proofs.lemmas.Result.{on_ok_weaker}
use Rattle.cal_ast.specs.Numbers.{DoneHasNumbers, SetHasNumbers}
use Rattle.cal_ast.specs.Tree.{assignment_tree, done_tree, group_tree}
use Rattle.cal_ast.specs.declared.tree.Assign.{Assign}
use Rattle.cal_ast.specs.declared.tree.DoneSet.{DoneSet}
use Rattle.cal_place.specs.Around.{comp_at, design_at, names_at}
use Rattle.cal_wires.specs.Readings.{ReadsDones, ReadsSets}
use Rattle.cal_wires.specs.WireGraphs.{Grows}
use Rattle.cal_wires.proofs.GainLemmas.{group_added, number_kept}
use Rattle.cal_wires.proofs.readings.add_group.Goals as goal

pub add_sets-requires : goal.add_sets-requires
add_sets-requires c = record {
  names = c.in_ok-hole.ensures.adds.names ∙ c.requires.names;
  sets = subst (All (SetHasNumbers (names_at c.args.place.now))) (sym c.deref.ensures.value) c.requires.group.sets;
  hole = c.in_ok-hole.ensures.hole;
}

pub add_dones-requires : goal.add_dones-requires
add_dones-requires c = record {
  names = c.in_ok-add_sets.ensures.adds.names ∙ c.in_ok-hole.ensures.adds.names ∙ c.requires.names;
  hole = number_kept c.add_hole.new.graph c.add_sets.new.graph _ c.in_ok-hole.hole.node c.in_ok-add_sets.ensures.adds.texts c.in_ok-hole.ensures.hole;
  dones = subst (All (DoneHasNumbers (names_at c.args.place.now))) (sym c.deref-2.ensures.value) c.requires.group.dones;
}

pub returns : goal.returns
returns c =
    let p = c.args.place.now in
    let names = names_at p in
    let k = c.in_ok-hole.hole.group in
    let a = c.args.graph.now in
    let b = c.add_hole.new.graph in
    let d = c.add_sets.new.graph in
    let e = c.add_dones.new.graph in
    let sets = subst (λ (l : List Assign). Grows (ReadsSets (Some k) (map (assignment_tree names) l)) b d) c.deref.ensures.value c.in_ok-add_sets.ensures in
    let dones = subst (λ (l : List DoneSet). OnOk c.add_dones.result (Grows (ReadsDones k (map (done_tree names) l)) d e)) c.deref-2.ensures.value c.add_dones.ensures in
    on_ok_weaker c.add_dones.result (λ last. group_added (design_at p) (comp_at p) (group_tree names c.args.group.now) k a b d e c.in_ok-hole.ensures.group c.in_ok-hole.ensures.adds c.in_ok-hole.ensures.holes sets last) dones
