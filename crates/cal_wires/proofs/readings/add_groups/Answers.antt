use Rattle.std.proofs.Common.{map, refl, subst, sym, ◌∙◌, arith}
use Rattle.std.proofs.lemmas.List.{length-map}
use Rattle.cal_ast.specs.Numbers.{GroupHasNumbers}
use Rattle.cal_ast.specs.Tree.{group_tree}
use Rattle.cal_ast.specs.declared.tree.Group.{Group}
use Rattle.cal_place.specs.Around.{comp_at, design_at, names_at}
use Rattle.cal_place.proofs.FoundLemmas.{to_map}
use Rattle.cal_wires.proofs.GainLemmas.{groups_all, groups_next, groups_none, item_at}
use Rattle.cal_wires.proofs.readings.add_groups.Goals as goal

pub add_group-requires : goal.add_group-requires
add_group-requires c =
    let H : Group → Type 0 = GroupHasNumbers (names_at c.args.place.now) in
    record { names = c.loop-group.invariant.adds.names ∙ c.requires.names; group = subst H (sym c.group-item.is) (c.requires.groups c.loop-group.group-index c.group-item.result c.loop-group-test.true) }

pub loop-group-init : goal.loop-group-init
loop-group-init c = groups_none (design_at c.args.place.now) (comp_at c.args.place.now) c.args.graph.now

pub loop-group-preserved : goal.loop-group-preserved
loop-group-preserved c =
    let p = c.args.place.now in
    let f = group_tree (names_at p) in
    let groups = c.args.groups.now in
    let k = c.loop-group.group-index in
    let g = c.group-item.result in
    groups_next (design_at p) (comp_at p) (map f groups) k (f g) c.args.graph.now c.loop-group.graph c.add_group.new.graph (to_map f groups k g (item_at groups groups k g refl c.loop-group-test.true c.group-item.is)) c.loop-group.invariant c.in_ok-add_group.ensures

pub returns : goal.returns
returns c =
    let p = c.args.place.now in
    let f = group_tree (names_at p) in
    groups_all (design_at p) (comp_at p) (map f c.args.groups.now) c.loop-group.group-index c.args.graph.now c.loop-group.graph (omega (arith, c.loop-group-test.false, length-map c.args.groups.now f)) c.loop-group.invariant
