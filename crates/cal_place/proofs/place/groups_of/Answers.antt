use Rattle.std.proofs.Common.{◌≡◌, ◌≤◌, length, map, slice_get, Some, refl, ap, ◌∙◌, arith}
use Rattle.std.proofs.lemmas.List.{length-map}
use Rattle.hw_names.proofs.NameLemmas.{text_of-slice_get}
use Rattle.cal_ast.specs.Naming.{group_names}
use Rattle.cal_ast.specs.Numbers.{GroupHasNumbers}
use Rattle.cal_ast.specs.Tree.{GroupDef, group_tree}
use Rattle.cal_place.proofs.FirstLemmas.{firsts_all, firsts_more}
use Rattle.cal_place.proofs.FoundLemmas.{to_map}
use Rattle.cal_place.proofs.ListLemmas.{All-item, at_mapped}
use Rattle.cal_place.proofs.place.groups_of.Goals as goal

pub text-requires : goal.text-requires
text-requires c =
    let groups = c.args.groups.now in
    (All-item (GroupHasNumbers c.args.names.now) groups groups c.loop-place.place c.index-groups-place.result refl c.loop-place-test.true c.index-groups-place.is c.requires).name

pub loop-place-preserved : goal.loop-place-preserved
loop-place-preserved c =
    let groups = c.args.groups.now in
    let names = c.args.names.now in
    let trees = map (group_tree names) groups in
    let k = c.loop-place.place in
    let tree = group_tree names c.index-groups-place.result in
    let named = text_of-slice_get names c.index-groups-place.result.name c.text.result.now c.text.ensures in
    let at : slice_get (group_names trees) k ≡ Some c.text.result.now =
    to_map (λ (x : GroupDef). x.name) trees k tree (at_mapped (group_tree names) groups groups k c.index-groups-place.result refl c.loop-place-test.true c.index-groups-place.is) ∙ ap Some named in
    firsts_more (group_names trees) k c.text.result.now c.loop-place.firsts c.add.new.self at c.in_ok-add.ensures c.loop-place.invariant

pub returns : goal.returns
returns c =
    let groups = c.args.groups.now in
    let trees = map (group_tree c.args.names.now) groups in
    let end : length (group_names trees) ≤ c.loop-place.place =
    omega (arith, c.loop-place-test.false, length-map trees (λ (x : GroupDef). x.name), length-map groups (group_tree c.args.names.now)) in
    firsts_all (group_names trees) c.loop-place.place c.loop-place.firsts end c.loop-place.invariant
