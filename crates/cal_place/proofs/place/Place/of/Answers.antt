use Rattle.std.proofs.Common.{◌<◌, List, All, length, map, refl, sym, subst, arith}
use Rattle.std.proofs.lemmas.List.{length-map}
use Rattle.cal_ast.specs.Naming.{cell_names, group_names}
use Rattle.cal_ast.specs.Numbers.{CellHasNumbers, ComponentHasNumbers, GroupHasNumbers}
use Rattle.cal_ast.specs.Tree.{cell_tree, component_tree, design_of, group_tree}
use Rattle.cal_ast.specs.declared.tree.CalCell.{CalCell}
use Rattle.cal_ast.specs.declared.tree.CalComp.{CalComp}
use Rattle.cal_ast.specs.declared.tree.Group.{Group}
use Rattle.cal_place.specs.Around.{comp_at, design_at}
use Rattle.cal_place.specs.FirstPlaces.{ShowsFirsts}
use Rattle.cal_place.proofs.ListLemmas.{at_mapped, item_at}
use Rattle.cal_place.proofs.place.Place.of.Goals as goal

pub cells_of-requires : goal.cells_of-requires
cells_of-requires c =
    let d = c.args.overview.now.design.now in
    let x = c.index-comp.result.now in
    let N : CalComp → Type 0 = ComponentHasNumbers d.names in
    let own : ComponentHasNumbers d.names x = subst N (sym c.index-comp.ensures) (c.requires.numbers c.args.number x c.requires.number) in
    subst (All (CellHasNumbers d.names)) (sym c.deref.ensures.value) own.cells

pub groups_of-requires : goal.groups_of-requires
groups_of-requires c =
    let d = c.args.overview.now.design.now in
    let x = c.index-comp.result.now in
    let N : CalComp → Type 0 = ComponentHasNumbers d.names in
    let own : ComponentHasNumbers d.names x = subst N (sym c.index-comp.ensures) (c.requires.numbers c.args.number x c.requires.number) in
    subst (All (GroupHasNumbers d.names)) (sym c.deref-2.ensures.value) own.groups

pub holders_of-requires : goal.holders_of-requires
holders_of-requires c =
    let d = c.args.overview.now.design.now in
    let within : c.args.number < length (design_of d) = omega (arith, c.requires.number, length-map d.comps.items (component_tree d.names)) in
    (design_of d, c.requires.nesting, within)

pub invariant_of-result : goal.invariant_of-result
invariant_of-result c =
    let d = c.args.overview.now.design.now in
    let x = c.index-comp.result.now in
    let C : List CalCell → Type 0 = λ l. ShowsFirsts c.in_ok-cells.cells (cell_names (map (cell_tree d.names) l)) in
    let G : List Group → Type 0 = λ l. ShowsFirsts c.in_ok-groups.groups (group_names (map (group_tree d.names) l)) in
    record {
      numbers = c.requires.numbers;
      at = item_at d.comps.items d.comps.items c.args.number x refl c.requires.number c.index-comp.ensures;
      tables = c.requires.tables;
      cells = subst C c.deref.ensures.value c.in_ok-cells.ensures;
      groups = subst G c.deref-2.ensures.value c.in_ok-groups.ensures;
      holders = c.in_ok-holders.ensures (design_of d) c.requires.nesting;
    }

pub returns-clause-design : goal.returns-clause-design
unfolding design_at
returns-clause-design c = refl

pub returns-clause-comp : goal.returns-clause-comp
unfolding comp_at
returns-clause-comp c =
    let d = c.args.overview.now.design.now in
    at_mapped (component_tree d.names) d.comps.items d.comps.items c.args.number c.index-comp.result.now refl c.requires.number c.index-comp.ensures
