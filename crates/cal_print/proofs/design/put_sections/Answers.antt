use Rattle.std.proofs.Common.{List, ◌++◌, codes, ap, ◌∙◌}
use Rattle.hw_names.specs.Name.{Text}
use Rattle.cal_ast.specs.declared.tree.Assign.{Assign}
use Rattle.cal_ast.specs.declared.tree.Group.{Group}
use Rattle.cal_ast.specs.declared.tree.CalCell.{CalCell}
use Rattle.cal_print.proofs.PrintLemmas.{OnOk-is}
use Rattle.cal_print.proofs.Sections.{cells_put, groups_put, sets_put, sections_put}
use Rattle.cal_print.proofs.design.put_sections.Goals as goal

pub returns : goal.returns
returns c =
    let names : List Text = c.args.names.now in
    let cells = c.in_ok-put_cells.ensures ∙ ap (λ (xs : List CalCell). c.put.new.out.items ++ cells_put names xs) c.deref.ensures.value in
    let groups = c.in_ok-put_groups.ensures ∙ ap (λ (xs : List Group). c.put-2.new.out.items ++ groups_put names xs) c.deref-2.ensures.value in
    let sets = c.in_ok-put_assignments.ensures ∙ ap (λ (xs : List Assign). c.put_groups.new.out.items ++ sets_put names (codes "    ") xs) c.deref-3.ensures.value in
    OnOk-is c.put-3.result c.put-3.new.out.items _ _ c.put-3.ensures
    (sections_put names c.args.comp.now c.args.out.now.items c.put.new.out.items c.put_cells.new.out.items c.put-2.new.out.items c.put_groups.new.out.items c.put_assignments.new.out.items
    c.in_ok-put.ensures cells c.in_ok-put-2.ensures groups sets)
