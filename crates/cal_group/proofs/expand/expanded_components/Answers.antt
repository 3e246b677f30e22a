use Rattle.std.proofs.Common.{◌≡◌, ◌<◌, List, length, map, Some, sym, ap, subst, ◌∙◌, arith}
use Rattle.std.specs.Prelude.{Contains, slice_get}
use Rattle.std.proofs.lemmas.List.{take_all}
use Rattle.std.proofs.lemmas.List.Elements.{All-contains, All-same}
use Rattle.cal_ast.specs.Numbers.{CellHasNumbers}
use Rattle.cal_ast.specs.Tree.{cell_tree, component_tree, design_of}
use Rattle.cal_ast.specs.declared.tree.CalCell.{CalCell}
use Rattle.cal_ast.specs.declared.tree.CalComp.{CalComp}
use Rattle.cal_group.proofs.BlockLemmas.{at_index}
use Rattle.cal_group.proofs.CellLemmas.{can_start, distinct_cells}
use Rattle.cal_group.proofs.ComponentLemmas.{AreMade, comp_at, comp_numbers, none_made, one_made}
use Rattle.cal_group.proofs.ExpandingLemmas.{named_later}
use Rattle.cal_group.proofs.StableLemmas.{KeepsTexts-refl, KeepsTexts-trans}
use Rattle.cal_group.proofs.expand.expanded_components.Goals as goal

pub loop-comp-init : goal.loop-comp-init
loop-comp-init c =
    let d = c.args.source.now in
    let names = c.args.made.now.names in
    record {
      kept = KeepsTexts-refl names;
      holds = c.in_ok-table.ensures.holds;
      comps = none_made d.names names (design_of d) c.new-comps.result.items c.new-comps.ensures.items;
    }

pub note-requires : goal.note-requires
note-requires c =
    let d = c.args.source.now in
    let items = c.deref-comp-items.result.now in
    let i = c.loop-comp.comp-index in
    let comp = c.comp-item.result in
    let I : List CalComp → Type 0 = λ l. slice_get l i ≡ Some comp in
    let at = subst I c.deref-comp-items.ensures.value (at_index items i comp c.loop-comp-test.true c.comp-item.is) in
    let has = comp_numbers d c.requires.numbers i comp at in
    λ cell there.
    let H : List CalCell → Type 0 = λ l. Contains l cell in
    let own = All-contains (CellHasNumbers d.names) comp.cells.items cell has.cells (subst H c.as_slice-own.ensures.value there) in
    let number : cell.name.0 < length d.names = own.0 in
    omega (arith, number, c.loop-comp.invariant.holds.sized)

pub expanded_component-requires : goal.expanded_component-requires
expanded_component-requires c =
    let d = c.args.source.now in
    let items = c.deref-comp-items.result.now in
    let i = c.loop-comp.comp-index in
    let comp = c.comp-item.result in
    let I : List CalComp → Type 0 = λ l. slice_get l i ≡ Some comp in
    let at = subst I c.deref-comp-items.ensures.value (at_index items i comp c.loop-comp-test.true c.comp-item.is) in
    let has = comp_numbers d c.requires.numbers i comp at in
    let cells = All-same (CellHasNumbers d.names) c.as_slice-own.result.now comp.cells.items c.as_slice-own.ensures.value has.cells in
    record { numbers = has; cells = c.note.ensures.holds d.names cells c.loop-comp.invariant.holds }

pub loop-comp-preserved : goal.loop-comp-preserved
loop-comp-preserved c =
    let d = c.args.source.now in
    let items = c.deref-comp-items.result.now in
    let i = c.loop-comp.comp-index in
    let comp = c.comp-item.result in
    let there = at_index items i comp c.loop-comp-test.true c.comp-item.is in
    let I : List CalComp → Type 0 = λ l. slice_get l i ≡ Some comp in
    let at = subst I c.deref-comp-items.ensures.value there in
    let has = comp_numbers d c.requires.numbers i comp at in
    let same = c.as_slice-own.ensures.value in
    let cells = All-same (CellHasNumbers d.names) c.as_slice-own.result.now comp.cells.items same has.cells in
    let design = design_of d in
    let tree = component_tree d.names comp in
    let tree_at = comp_at d i comp at in
    let first = c.args.made.now.names in
    let old = c.loop-comp.made.names in
    let new = c.expanded_component.new.made.names in
    let kept = c.in_ok-expanded_component.ensures.kept in
    let noted = c.note.ensures.has d.names tree c.in_ok-table.ensures.distinct cells (ap (map (cell_tree d.names)) (sym same)) (distinct_cells design c.requires.rules i tree tree_at) in
    let named = named_later first old c.args.ports c.loop-comp.invariant.kept c.requires.named in
    record {
      kept = KeepsTexts-trans first old new c.loop-comp.invariant.kept kept;
      holds = c.note.ensures.holds d.names cells c.loop-comp.invariant.holds;
      comps = one_made d.names old new design items i comp c.in_ok-expanded_component.field-0 c.loop-comp.comps.items _ kept there c.in_ok-push.ensures.items c.loop-comp.invariant.comps
          (λ later is. c.in_ok-expanded_component.ensures.component later design is noted named (can_start design c.requires.rules i tree tree_at));
    }

pub returns : goal.returns
returns c =
    let d = c.args.source.now in
    let items = c.deref-comp-items.result.now in
    let i = c.loop-comp.comp-index in
    let A : List CalComp → Type 0 = λ cs. AreMade d.names c.loop-comp.made.names (design_of d) cs c.loop-comp.comps.items in
    let all = subst A (take_all i items c.loop-comp-test.false ∙ c.deref-comp-items.ensures.value) c.loop-comp.invariant.comps in
    record { kept = c.loop-comp.invariant.kept; trees = all.trees; numbers = all.numbers }
