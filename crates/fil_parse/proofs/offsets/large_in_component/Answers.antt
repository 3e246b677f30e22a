use Rattle.std.proofs.Common.{List, sym, ap, ◌∙◌}
use Rattle.std.specs.Prelude.{find, flat_map}
use Rattle.fil_ast.specs.declared.tree.EventDef.{EventDef}
use Rattle.fil_ast.specs.declared.tree.FilPort.{FilPort}
use Rattle.fil_ast.specs.declared.tree.Stmt.{Stmt}
use Rattle.fil_parse.specs.inside.Offsets.{of_events, of_port, of_statement}
use Rattle.fil_parse.specs.Spelling.{is_large}
use Rattle.fil_parse.proofs.Finding.{in_first, in_second, in_third, in_fourth}
use Rattle.fil_parse.proofs.offsets.large_in_component.Goals as goal

pub returns-in-Some : goal.returns-in-Some
returns-in-Some c =
    sym (in_first is_large (of_events c.args.comp.now.events.items) (flat_map of_port c.args.comp.now.ins.items) (flat_map of_port c.args.comp.now.outs.items) (flat_map of_statement c.args.comp.now.body.items)
    c.in-Some.delay (sym (c.in-Some.ensures ∙ ap (λ (xs : List EventDef). find is_large (of_events xs)) c.deref.ensures.value)))

pub returns-in-Some-large_port : goal.returns-in-Some-large_port
returns-in-Some-large_port c =
    let a = sym (c.in_default.ensures ∙ ap (λ (xs : List EventDef). find is_large (of_events xs)) c.deref.ensures.value) in
    let b = sym (c.in-Some-large_port.ensures ∙ ap (λ (xs : List FilPort). find is_large (flat_map of_port xs)) c.deref-2.ensures.value) in
    sym (in_second is_large (of_events c.args.comp.now.events.items) (flat_map of_port c.args.comp.now.ins.items) (flat_map of_port c.args.comp.now.outs.items) (flat_map of_statement c.args.comp.now.body.items)
    c.in-Some-large_port.plus a b)

pub returns-in-Some-large_port-2 : goal.returns-in-Some-large_port-2
returns-in-Some-large_port-2 c =
    let a = sym (c.in_default.ensures ∙ ap (λ (xs : List EventDef). find is_large (of_events xs)) c.deref.ensures.value) in
    let b = sym (c.in_default-large_port.ensures ∙ ap (λ (xs : List FilPort). find is_large (flat_map of_port xs)) c.deref-2.ensures.value) in
    let d = sym (c.in-Some-large_port-2.ensures ∙ ap (λ (xs : List FilPort). find is_large (flat_map of_port xs)) c.deref-3.ensures.value) in
    sym (in_third is_large (of_events c.args.comp.now.events.items) (flat_map of_port c.args.comp.now.ins.items) (flat_map of_port c.args.comp.now.outs.items) (flat_map of_statement c.args.comp.now.body.items)
    c.in-Some-large_port-2.plus a b d)

pub returns : goal.returns
returns c =
    let a = sym (c.in_default.ensures ∙ ap (λ (xs : List EventDef). find is_large (of_events xs)) c.deref.ensures.value) in
    let b = sym (c.in_default-large_port.ensures ∙ ap (λ (xs : List FilPort). find is_large (flat_map of_port xs)) c.deref-2.ensures.value) in
    let d = sym (c.in_default-large_port-2.ensures ∙ ap (λ (xs : List FilPort). find is_large (flat_map of_port xs)) c.deref-3.ensures.value) in
    let e = c.large_statement.ensures ∙ ap (λ (xs : List Stmt). find is_large (flat_map of_statement xs)) c.deref-4.ensures.value in
    e ∙ sym (in_fourth is_large (of_events c.args.comp.now.events.items) (flat_map of_port c.args.comp.now.ins.items) (flat_map of_port c.args.comp.now.outs.items) (flat_map of_statement c.args.comp.now.body.items)
    a b d)
