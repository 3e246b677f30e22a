use Rattle.std.proofs.Common.{◌≤◌, length, ap, arith}
use Rattle.std.proofs.lemmas.List.{length-map}
use Rattle.cal_ast.specs.Numbers.{ComponentHasNumbers}
use Rattle.cal_ast.specs.Tree.{component_tree, design_of}
use Rattle.cal_place.proofs.ListLemmas.{All-item, at_mapped}
use Rattle.cal_place.proofs.TableLemmas.{signatures_all, signatures_more, signatures_none}
use Rattle.cal_place.proofs.tables.signatures_of.Goals as goal

pub of-requires : goal.of-requires
of-requires c =
    let d = c.args.design.now in
    All-item (ComponentHasNumbers d.names) d.comps.items c.deref-comp-items.result.now c.loop-comp.comp-index c.comp-item.result c.deref-comp-items.ensures.value
    c.loop-comp-test.true c.comp-item.is c.requires

pub loop-comp-init : goal.loop-comp-init
loop-comp-init c = signatures_none _ c.new-signatures.ensures.items

pub loop-comp-preserved : goal.loop-comp-preserved
loop-comp-preserved c =
    let d = c.args.design.now in
    let n = c.loop-comp.comp-index in
    let at =
    at_mapped (component_tree d.names) d.comps.items c.deref-comp-items.result.now n c.comp-item.result c.deref-comp-items.ensures.value c.loop-comp-test.true c.comp-item.is in
    signatures_more (design_of d) c.loop-comp.signatures.items _ n (component_tree d.names c.comp-item.result) c.in_ok-of.field-0 at c.in_ok-push.ensures.items c.in_ok-of.ensures c.loop-comp.invariant

pub returns : goal.returns
returns c =
    let d = c.args.design.now in
    let n = c.loop-comp.comp-index in
    let end : length (design_of d) ≤ n =
    omega (arith, c.loop-comp-test.false, ap length c.deref-comp-items.ensures.value, length-map d.comps.items (component_tree d.names)) in
    signatures_all (design_of d) n c.loop-comp.signatures.items end c.loop-comp.invariant
