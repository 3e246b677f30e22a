use Rattle.std.proofs.Common.{◌≡◌, ◌∙◌, ℕ, ◌++◌, List, Some, length, get_or, flat_map, sym, ap, ap₂, arith}
use Rattle.hw_names.proofs.NameLemmas.{text_of-slice_get}
use Rattle.hw_names.specs.Name.{Text, text_of}
use Rattle.net_core.specs.declared.net.NetPort.{NetPort}
use Rattle.filc_report.specs.Rows.{port_text}
use Rattle.filc_calyx.proofs.OutputLemmas.{inside_ports, output_more, outputs_all, value_is}
use Rattle.filc_calyx.proofs.lines.push_outputs.Goals as goal

pub value-requires : goal.value-requires
value-requires c =
    let net = c.args.net.now in
    let none : NetPort = record { name = record { 0 = 0 }; width = 0 } in
    let inside = inside_ports net c.deref-output-items.result.now c.deref-output-items.ensures.value c.len-first.result (c.len-first.ensures ∙ net.ins.ok.0) c.loop-at.at c.loop-at-test.true none in
    omega (arith, inside, c.requires.evaluated)

pub loop-at-preserved : goal.loop-at-preserved
loop-at-preserved c = λ row are.
    let net = c.args.net.now in
    let items = c.deref-output-items.result.now in
    let same = c.deref-output-items.ensures.value in
    let counted = c.len-first.ensures ∙ net.ins.ok.0 in
    let at = c.loop-at.at in
    let within = c.loop-at-test.true in
    let none : NetPort = record { name = record { 0 = 0 }; width = 0 } in
    let output = get_or items at none in
    let named = text_of-slice_get net.names output.name c.text.result.now c.text.ensures in
    let value : c.value-value.result ≡ row (text_of net.names output.name) =
    value_is net items same c.len-first.result counted at within none row c.args.sim.now.values c.value-value.result are
    (c.value.ensures.value ∙ ap (λ (v : ℕ). Some v) (sym c.value-value.ensures)) in
    output_more net items same c.len-first.result counted at within none (λ (port : Text). port_text port (row port)) c.args.text.now.items c.loop-at.text.items c.push_port.new.text.items
    (c.loop-at.invariant row are)
    (c.in_ok-push_port.ensures ∙ ap₂ (λ (port : Text) (v : ℕ). c.loop-at.text.items ++ port_text port v) (sym named) value)

pub returns : goal.returns
returns c = λ row are.
    let all = outputs_all c.args.net.now c.loop-at.at (omega (arith, c.loop-at-test.false, ap length c.deref-output-items.ensures.value)) in
    c.loop-at.invariant row are ∙ ap (λ (outs : List Text). c.args.text.now.items ++ flat_map (λ (port : Text). port_text port (row port)) outs) all
