use Rattle.cal_ast.specs.Tree.{component_tree}
use Rattle.cal_print.specs.Layout.{cells_text, wires_text, component_head, control_text}
use Rattle.std.proofs.Common.{◌++◌}
use Rattle.cal_print.proofs.PrintLemmas.{OnOk-is}
use Rattle.cal_print.proofs.Sections.{component_put}
use Rattle.cal_print.proofs.design.put_component.Goals as goal

pub returns : goal.returns
returns c =
    let tree = component_tree c.args.names.now c.args.comp.now in
    OnOk-is c.put-2.result c.put-2.new.out.items _ _ c.put-2.ensures
    (component_put c.args.out.now.items c.put_head.new.out.items c.put.new.out.items c.put_sections.new.out.items c.put_control.new.out.items
    (component_head tree) (cells_text tree.cells ++ wires_text tree.groups tree.sets) (control_text tree.control)
    c.in_ok-put_head.ensures c.in_ok-put.ensures c.in_ok-put_sections.ensures c.in_ok-put_control.ensures)
