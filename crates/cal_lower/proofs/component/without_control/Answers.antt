use Rattle.std.proofs.Common.{List, map, subst, ◌∙◌}
use Rattle.std.specs.List.{AllZip}
use Rattle.cal_ast.specs.Tree.{assignment_tree, cell_tree, group_tree, pin_tree}
use Rattle.cal_ast.specs.declared.tree.Assign.{Assign}
use Rattle.cal_ast.specs.declared.tree.CalCell.{CalCell}
use Rattle.cal_ast.specs.declared.tree.Group.{Group}
use Rattle.cal_copy.specs.inside.Copies.{IsCellCopy, IsGroupCopy, IsSetCopy}
use Rattle.cal_lower.proofs.ComponentLemmas.{component_made, pins_copied}
use Rattle.cal_lower.proofs.CopiedLemmas.{cells_copied, groups_copied, sets_copied}
use Rattle.cal_lower.proofs.component.without_control.Goals as goal

pub returns : goal.returns
returns c = λ source names kept known.
    let comp = c.args.comp.now in
    let ins = c.in_ok-from_slice.field-0 in
    let outs = c.in_ok-from_slice-2.field-0 in
    let cells = c.in_ok-copy_cells.field-0 in
    let groups = c.in_ok-copy_groups.field-0 in
    let sets = c.in_ok-copy_sets.field-0 in
    let C : List CalCell → Type 0 = λ l. AllZip IsCellCopy l cells.items in
    let G : List Group → Type 0 = λ l. AllZip IsGroupCopy l groups.items in
    let S : List Assign → Type 0 = λ l. AllZip IsSetCopy l sets.items in
    component_made source names kept comp.name known.name (map (pin_tree source) comp.ins.items) (map (pin_tree source) comp.outs.items) (map (cell_tree source) comp.cells.items)
    (map (group_tree source) comp.groups.items) (map (assignment_tree source) comp.sets.items) ins outs cells groups sets
    (pins_copied source names kept comp.ins.items ins.items (c.in_ok-from_slice.ensures.items ∙ c.deref.ensures.value) known.ins)
    (pins_copied source names kept comp.outs.items outs.items (c.in_ok-from_slice-2.ensures.items ∙ c.deref-2.ensures.value) known.outs)
    (cells_copied source names kept comp.cells.items cells.items (subst C c.deref-3.ensures.value c.in_ok-copy_cells.ensures) known.cells)
    (groups_copied source names kept comp.groups.items groups.items (subst G c.deref-4.ensures.value c.in_ok-copy_groups.ensures) known.groups)
    (sets_copied source names kept comp.sets.items sets.items (subst S c.deref-5.ensures.value c.in_ok-copy_sets.ensures) known.sets)
