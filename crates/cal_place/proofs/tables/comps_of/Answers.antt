use Rattle.std.proofs.Common.{◌≡◌, ◌≤◌, length, slice_get, Some, ap, ◌∙◌, arith}
use Rattle.std.proofs.lemmas.List.{length-map}
use Rattle.hw_names.proofs.NameLemmas.{text_of-slice_get}
use Rattle.cal_ast.specs.Naming.{component_names}
use Rattle.cal_ast.specs.Numbers.{ComponentHasNumbers}
use Rattle.cal_ast.specs.Tree.{Component, component_tree, design_of}
use Rattle.cal_place.proofs.FirstLemmas.{firsts_all, firsts_more}
use Rattle.cal_place.proofs.FoundLemmas.{to_map}
use Rattle.cal_place.proofs.ListLemmas.{All-item, at_mapped}
use Rattle.cal_place.proofs.tables.comps_of.Goals as goal

pub text-requires : goal.text-requires
text-requires c =
    let d = c.args.design.now in
    (All-item (ComponentHasNumbers d.names) d.comps.items c.deref-comp-items.result.now c.loop-number.number c.comp-item.result c.deref-comp-items.ensures.value
    c.loop-number-test.true c.comp-item.is c.requires).name

pub loop-number-preserved : goal.loop-number-preserved
loop-number-preserved c =
    let d = c.args.design.now in
    let k = c.loop-number.number in
    let tree = component_tree d.names c.comp-item.result in
    let named = text_of-slice_get d.names c.comp-item.result.name c.text.result.now c.text.ensures in
    let at : slice_get (component_names (design_of d)) k ≡ Some c.text.result.now =
    to_map (λ (x : Component). x.name) (design_of d) k tree
    (at_mapped (component_tree d.names) d.comps.items c.deref-comp-items.result.now k c.comp-item.result c.deref-comp-items.ensures.value c.loop-number-test.true c.comp-item.is) ∙ ap Some named in
    firsts_more (component_names (design_of d)) k c.text.result.now c.loop-number.comps c.add.new.self at c.in_ok-add.ensures c.loop-number.invariant

pub returns : goal.returns
returns c =
    let d = c.args.design.now in
    let end : length (component_names (design_of d)) ≤ c.loop-number.number =
    omega (arith, c.loop-number-test.false, ap length c.deref-comp-items.ensures.value, length-map (design_of d) (λ (x : Component). x.name), length-map d.comps.items (component_tree d.names)) in
    firsts_all (component_names (design_of d)) c.loop-number.number c.loop-number.comps end c.loop-number.invariant
