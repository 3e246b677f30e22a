use Rattle.std.proofs.Common.{List, ◌++◌, ap, ◌∙◌}
use Rattle.std.specs.List.{flat_map}
use Rattle.hw_names.specs.Name.{Text}
use Rattle.fil_ast.specs.declared.tree.EventDef.{EventDef}
use Rattle.fil_ast.specs.declared.tree.GoPort.{GoPort}
use Rattle.fil_ast.specs.declared.tree.FilPort.{FilPort}
use Rattle.fil_ast.specs.declared.tree.Stmt.{Stmt}
use Rattle.fil_ast.specs.Tree.{event_tree, port_tree, statement_tree}
use Rattle.fil_parse.specs.Layout.{joined, event_text, input_text, port_text, line_text}
use Rattle.fil_parse.proofs.PrintLemmas.{OnOk-is, component_put, own_interfaces, own_data}
use Rattle.fil_parse.proofs.print.put_component.Goals as goal

pub returns : goal.returns
returns c =
    let names : List Text = c.args.names.now in
    let events = c.in_ok-put_events.ensures ∙ ap (λ (xs : List EventDef). c.put-2.new.out.items ++ joined (λ e. event_text (event_tree names e)) xs) c.deref.ensures.value in
    let inputs =
    c.in_ok-put_inputs.ensures
    ∙ ap (λ (xs : List GoPort). c.put-3.new.out.items ++ joined input_text (own_interfaces names xs ++ own_data names c.deref-3.result.now)) c.deref-2.ensures.value
    ∙ ap (λ (xs : List FilPort). c.put-3.new.out.items ++ joined input_text (own_interfaces names c.args.comp.now.gos.items ++ own_data names xs)) c.deref-3.ensures.value in
    let outs = c.in_ok-put_ports.ensures ∙ ap (λ (xs : List FilPort). c.put-4.new.out.items ++ joined (λ p. port_text (port_tree names p)) xs) c.deref-4.ensures.value in
    let lines = c.in_ok-put_lines.ensures ∙ ap (λ (xs : List Stmt). c.put-5.new.out.items ++ flat_map (λ s. line_text (statement_tree names s)) xs) c.deref-5.ensures.value in
    OnOk-is c.put-6.result c.put-6.new.out.items _ _ c.put-6.ensures
    (component_put names c.args.comp.now c.args.out.now.items c.put.new.out.items c.put_name.new.out.items c.put-2.new.out.items c.put_events.new.out.items c.put-3.new.out.items c.put_inputs.new.out.items c.put-4.new.out.items c.put_ports.new.out.items c.put-5.new.out.items c.put_lines.new.out.items
    c.in_ok-put.ensures c.in_ok-put_name.ensures c.in_ok-put-2.ensures events c.in_ok-put-3.ensures inputs c.in_ok-put-4.ensures outs c.in_ok-put-5.ensures lines)
