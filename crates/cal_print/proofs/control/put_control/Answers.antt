use Rattle.std.proofs.Common.{List, ◌++◌, codes, ap, sym, ◌∙◌}
use Rattle.hw_names.specs.Name.{Text}
use Rattle.cal_ast.specs.Tree.{statement_tree, control_tree}
use Rattle.cal_ast.specs.declared.tree.ControlPart.{ControlPart}
use Rattle.cal_print.specs.Layout.{statement_text, control_text}
use Rattle.cal_print.proofs.PrintLemmas.{OnOk-is}
use Rattle.cal_print.proofs.Sections.{body_put}
use Rattle.cal_print.proofs.control.put_control.Goals as goal

pub returns-in_ok-put_statement-in-Body : goal.returns-in_ok-put_statement-in-Body
returns-in_ok-put_statement-in-Body c =
    let names : List Text = c.args.names.now in
    let start : Text = c.args.out.now.items in
    OnOk-is c.put-in-Body-2.result c.put-in-Body-2.new.out.items _ _ c.put-in-Body-2.ensures
    (body_put start c.put-in-Body.new.out.items c.put_statement.new.out.items (statement_text (codes "    ") (statement_tree names c.in-Body.statement)) c.in_ok-put-in-Body.ensures c.in_ok-put_statement-in-Body.ensures
    ∙ ap (λ (part : ControlPart). start ++ control_text (control_tree names part)) (sym c.in-Body.is))
