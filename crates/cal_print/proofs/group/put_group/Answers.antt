use Rattle.std.proofs.Common.{List, ◌++◌, codes, ap, ◌∙◌}
use Rattle.hw_names.specs.Name.{Text}
use Rattle.cal_ast.specs.declared.tree.Assign.{Assign}
use Rattle.cal_ast.specs.declared.tree.DoneSet.{DoneSet}
use Rattle.cal_print.proofs.PrintLemmas.{OnOk-is}
use Rattle.cal_print.proofs.Sections.{sets_put, dones_put, group_put}
use Rattle.cal_print.proofs.group.put_group.Goals as goal

pub returns : goal.returns
returns c =
    let names : List Text = c.args.names.now in
    let sets = c.in_ok-put_assignments.ensures ∙ ap (λ (xs : List Assign). c.put-2.new.out.items ++ sets_put names (codes "      ") xs) c.deref.ensures.value in
    let dones = c.in_ok-put_dones.ensures ∙ ap (λ (xs : List DoneSet). c.put_assignments.new.out.items ++ dones_put names xs) c.deref-2.ensures.value in
    OnOk-is c.put-3.result c.put-3.new.out.items _ _ c.put-3.ensures
    (group_put names c.args.group.now c.args.out.now.items c.put.new.out.items c.put_head.new.out.items c.put-2.new.out.items c.put_assignments.new.out.items c.put_dones.new.out.items
    c.in_ok-put.ensures c.in_ok-put_head.ensures c.in_ok-put-2.ensures sets dones)
