use Rattle.std.proofs.Common.{List, ◌++◌, ap, ◌∙◌}
use Rattle.hw_names.specs.Name.{Text}
use Rattle.cal_ast.specs.declared.tree.CalPin.{CalPin}
use Rattle.cal_print.proofs.PrintLemmas.{OnOk-is}
use Rattle.cal_print.proofs.Sections.{pins_put, head_put}
use Rattle.cal_print.proofs.design.put_head.Goals as goal

pub returns : goal.returns
returns c =
    let names : List Text = c.args.names.now in
    let ins = c.in_ok-put_pins.ensures ∙ ap (λ (xs : List CalPin). c.put-2.new.out.items ++ pins_put names xs) c.deref.ensures.value in
    let outs = c.in_ok-put_pins-2.ensures ∙ ap (λ (xs : List CalPin). c.put-3.new.out.items ++ pins_put names xs) c.deref-2.ensures.value in
    OnOk-is c.put-4.result c.put-4.new.out.items _ _ c.put-4.ensures
    (head_put names c.args.comp.now c.args.out.now.items c.put.new.out.items c.put_name.new.out.items c.put-2.new.out.items c.put_pins.new.out.items c.put-3.new.out.items c.put_pins-2.new.out.items
    c.in_ok-put.ensures c.in_ok-put_name.ensures c.in_ok-put-2.ensures ins c.in_ok-put-3.ensures outs)
