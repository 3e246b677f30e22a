use Rattle.std.proofs.Common.{◌≤◌, List, All, length, map, subst, sym, ap, arith}
use Rattle.std.proofs.lemmas.List.{length-map}
use Rattle.cal_ast.specs.Numbers.{CellHasNumbers, ComponentHasNumbers}
use Rattle.cal_ast.specs.Tree.{cell_tree, component_tree, design_of}
use Rattle.cal_ast.specs.declared.tree.CalCell.{CalCell}
use Rattle.cal_place.specs.Prototypes.{AreMadeOf}
use Rattle.cal_place.proofs.ListLemmas.{All-item, at_mapped}
use Rattle.cal_place.proofs.TableLemmas.{IsMadeIn, all_made, each_none, each_push}
use Rattle.cal_place.proofs.tables.made_in.Goals as goal

pub made_of_each-requires : goal.made_of_each-requires
made_of_each-requires c =
    let d = c.args.design.now in
    let numbers = All-item (ComponentHasNumbers d.names) d.comps.items c.deref-comp-items.result.now c.loop-comp.comp-index c.comp-item.result c.deref-comp-items.ensures.value
    c.loop-comp-test.true c.comp-item.is c.requires.numbers in
    subst (All (CellHasNumbers d.names)) (sym c.deref.ensures.value) numbers.cells

pub loop-comp-init : goal.loop-comp-init
loop-comp-init c = each_none (IsMadeIn (design_of c.args.design.now)) _ c.new-made.ensures.items

pub loop-comp-preserved : goal.loop-comp-preserved
loop-comp-preserved c =
    let d = c.args.design.now in
    let n = c.loop-comp.comp-index in
    let at =
    at_mapped (component_tree d.names) d.comps.items c.deref-comp-items.result.now n c.comp-item.result c.deref-comp-items.ensures.value c.loop-comp-test.true c.comp-item.is in
    let made = subst (λ (cells : List CalCell). AreMadeOf (design_of d) (map (cell_tree d.names) cells) c.in_ok-made_of_each.field-0.items) c.deref.ensures.value (c.in_ok-made_of_each.ensures (design_of d) c.requires.comps) in
    each_push (IsMadeIn (design_of d)) (design_of d) c.loop-comp.made.items _ n (component_tree d.names c.comp-item.result) c.in_ok-made_of_each.field-0 at c.in_ok-push.ensures.items made c.loop-comp.invariant

pub returns : goal.returns
returns c =
    let d = c.args.design.now in
    let n = c.loop-comp.comp-index in
    let end : length (design_of d) ≤ n =
    omega (arith, c.loop-comp-test.false, ap length c.deref-comp-items.ensures.value, length-map d.comps.items (component_tree d.names)) in
    all_made (design_of d) n c.loop-comp.made.items end c.loop-comp.invariant
