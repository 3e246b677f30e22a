use Rattle.std.proofs.Common.{rules, ◌≡◌, ◌+◌, ◌<◌, ◌≤◌, ◌++◌, [], ◌∷◌, true, false, ℕ, List, decimal, length, map, get_or, arith, refl, sym, ap, subst, ◌∙◌}
use Rattle.std.specs.Prelude.{slice_get, Some}
use Rattle.std.proofs.lemmas.List.{length-map, drop_more}
use Rattle.std.proofs.lemmas.Result.{on_ok_weaker, on_err_weaker}
use Rattle.hw_bits.specs.Values.{values_of}
use Rattle.hw_bits.specs.declared.bits.Bits.{Bits}
use Rattle.hw_io.specs.Writing.{AppendsPrefix, Passes}
use Rattle.hw_names.specs.Name.{Text}
use Rattle.hw_names.proofs.NameLemmas.{text_of-slice_get}
use Rattle.fil_ast.specs.Transactions.{is_of_event, outputs_shown}
use Rattle.fil_ast.specs.Tree.{component_tree, port_tree}
use Rattle.fil_ast.specs.declared.tree.FilPort.{FilPort}
use Rattle.filc_report.specs.Rows.{port_text}
use Rattle.filc_load.specs.StimulusFile.{event_name}
use Rattle.filc_report.specs.Transactions.{named_line}
use Rattle.filc_report.proofs.FlowLemmas.{mapped_here, port_here, of_event, rest_of_flow, flow_from, next_output, other_output, end_of_flow}
use Rattle.filc_stop.proofs.SinkLemmas.{PassedUpTo, passed_up_to_none, passed_up_to_more, passed_up_to_prefix, passed_up_to_all}
use Rattle.filc_report.proofs.flows.push_flow.Goals as goal
use Rattle.filc_report.proofs.flows.push_flow.Goals.{then-eq+in_ok-push_port, else-eq}

no_port : FilPort
no_port = record { from = record { event = record { 0 = 0 }; plus = 0 }; to = record { event = record { 0 = 0 }; plus = 0 }; name = record { 0 = 0 }; width = 0 }

-- an output of the event, by its number, with its value
next : (names : List Text) (ports items : List FilPort) (vs : List Bits) (i : ℕ) (event name : Text) (v : Bits) (value : ℕ) → items ≡ ports → length vs ≡ length ports → i < length items → slice_get names (get_or items i no_port).name.0 ≡ Some name → v ≡ get_or vs i v → value ≡ v.value → is_of_event event (port_tree names (get_or items i no_port)) ≡ true
    → rest_of_flow event (map (port_tree names) ports) (values_of vs) i ≡ port_text name value ++ rest_of_flow event (map (port_tree names) ports) (values_of vs) (i + 1)
next names ports items vs i event name v value same each within named v_is value_is is =
    let p = port_tree names (get_or items i no_port) in
    let inside : i < length vs = omega (arith, within, each, ap length same) in
    let here = mapped_here (λ (x : Bits). x.value) vs i v inside v_is in
    let after = rest_of_flow event (map (port_tree names) ports) (values_of vs) (i + 1) in
    next_output event (map (port_tree names) ports) (values_of vs) i p v.value (port_here names ports items i no_port same within) here is
    ∙ ap (λ (n : ℕ). port_text p.name n ++ after) (sym value_is) ∙ ap (λ (t : Text). port_text t value ++ after) (text_of-slice_get names (get_or items i no_port).name name named)

-- any other output
past : (names : List Text) (ports items : List FilPort) (vs : List Bits) (i : ℕ) (event : Text) → items ≡ ports → length vs ≡ length ports → i < length items → is_of_event event (port_tree names (get_or items i no_port)) ≡ false
    → rest_of_flow event (map (port_tree names) ports) (values_of vs) i ≡ rest_of_flow event (map (port_tree names) ports) (values_of vs) (i + 1)
past names ports items vs i event same each within is =
    let no_bits = get_or (values_of vs) i 0 in
    let inside : i < length (values_of vs) = omega (arith, within, each, ap length same, length-map vs (λ (x : Bits). x.value)) in
    other_output event (map (port_tree names) ports) (values_of vs) i (port_tree names (get_or items i no_port)) no_bits (port_here names ports items i no_port same within) (drop_more (values_of vs) i 0 inside) is

pub returns-in_err-push-clause-prefix : goal.returns-in_err-push-clause-prefix
returns-in_err-push-clause-prefix g c =
    let told = g.O.Sink.written in
    let outs = map (port_tree c.args.names.now) c.args.comp.now.outs.items in
    let shown = outputs_shown (event_name (component_tree c.args.names.now c.args.comp.now) c.args.tx.now.event) outs (values_of c.args.values.now) in
    let late = rw (c.as_bytes.ensures.value, c.format.ensures.text) at c.in_err-push.ensures.prefix in
    let prefix = passed_up_to_prefix (told c.args.out.now) (told c.args.out.now) (told c.push.new.sink) c.args.held.now c.args.held.now (decimal c.args.number) _ _ (named_line c.args.number shown) (flow_from c.args.number shown) (passed_up_to_none _ _ _) late in
    search (rules, prefix)

pub loop-at-init : goal.loop-at-init
loop-at-init g c =
    let told = g.O.Sink.written in
    let outs = map (port_tree c.args.names.now) c.args.comp.now.outs.items in
    let shown = outputs_shown c.event_name-shown.result.now outs (values_of c.args.values.now) in
    let late = rw (c.as_bytes.ensures.value, c.format.ensures.text) at c.in_ok-push.ensures.passed in
    record {
      passed = passed_up_to_more (told c.args.out.now) (told c.args.out.now) (told c.push.new.sink) c.args.held.now c.args.held.now c.push.new.self (decimal c.args.number) _ _ (named_line c.args.number shown) (flow_from c.args.number shown) (passed_up_to_none _ _ _) late;
      never_falls = c.in_ok-push.ensures.never_falls;
    }

pub returns-in_err-push_port-clause-prefix : goal.returns-in_err-push_port-clause-prefix
unfolding no_port
returns-in_err-push_port-clause-prefix g c =
    let told = g.O.Sink.written in
    let names = c.args.names.now in
    let event = c.event_name-shown.result.now in
    let i = c.loop-at.at in
    let items = c.deref-port-items.result.now in
    let outs = map (port_tree names) c.args.comp.now.outs.items in
    let values = values_of c.args.values.now in
    let is = of_event names (get_or items i no_port) event c.text.result.now c.eq.result true c.text.ensures c.eq.ensures c.if-eq.true in
    let parts = next names c.args.comp.now.outs.items items c.args.values.now i event c.text-then-eq.result.now c.index-values-at.result c.value.result c.deref-port-items.ensures.value c.requires.each c.loop-at-test.true c.text-then-eq.ensures c.index-values-at.is c.value.ensures is in
    let part = passed_up_to_prefix (told c.args.out.now) (told c.loop-at.out) (told c.push_port.new.out) c.args.held.now c.loop-at.held _ _ _ (named_line c.args.number (outputs_shown event outs values)) parts c.loop-at.invariant.passed c.in_err-push_port.ensures.prefix in
    let prefix = subst (λ (e : Text). AppendsPrefix (told c.args.out.now) (told c.push_port.new.out) (c.args.held.now ++ named_line c.args.number (outputs_shown e outs values))) c.event_name-shown.ensures part in
    search (rules, prefix)

pub loop-at-preserved : goal.loop-at-preserved
unfolding no_port
loop-at-preserved g c =
    let told = g.O.Sink.written in
    let names = c.args.names.now in
    let event = c.event_name-shown.result.now in
    let i = c.loop-at.at in
    let items = c.deref-port-items.result.now in
    let outs = map (port_tree names) c.args.comp.now.outs.items in
    let values = values_of c.args.values.now in
    let all = named_line c.args.number (outputs_shown event outs values) in
    elim c.if-eq.branch [
      | then-eq+in_ok-push_port w ↦
          let is = of_event names (get_or items i no_port) event c.text.result.now c.eq.result true c.text.ensures c.eq.ensures w.if-eq.true in
          let parts = next names c.args.comp.now.outs.items items c.args.values.now i event w.text-then-eq.result.now w.index-values-at.result w.value.result c.deref-port-items.ensures.value c.requires.each c.loop-at-test.true w.text-then-eq.ensures w.index-values-at.is w.value.ensures is in
          rw (w.held-is, w.out-is) (record {
            passed = passed_up_to_more (told c.args.out.now) (told c.loop-at.out) (told w.push_port.new.out) c.args.held.now c.loop-at.held w.push_port.new.held _ _ _ all parts c.loop-at.invariant.passed w.in_ok-push_port.ensures.passed;
            never_falls = omega (arith, c.loop-at.invariant.never_falls, w.in_ok-push_port.ensures.never_falls);
          })
      | else-eq w ↦
          let is = of_event names (get_or items i no_port) event c.text.result.now c.eq.result false c.text.ensures c.eq.ensures w.if-eq.false in
          let parts = past names c.args.comp.now.outs.items items c.args.values.now i event c.deref-port-items.ensures.value c.requires.each c.loop-at-test.true is in
          rw (w.held-is, w.out-is) (record {
            passed = subst (λ (rest : Text). PassedUpTo (told c.args.out.now) c.args.held.now (told c.loop-at.out) c.loop-at.held rest all) parts c.loop-at.invariant.passed;
            never_falls = c.loop-at.invariant.never_falls;
          })
    ]

-- after the outputs the line ends
ended : (names : List Text) (ports items : List FilPort) (values : List ℕ) (i : ℕ) (event : Text) → items ≡ ports → length items ≤ i → rest_of_flow event (map (port_tree names) ports) values i ≡ 10 ∷ []
ended names ports items values i event same past =
    end_of_flow event (map (port_tree names) ports) values i (omega (arith, past, ap length same, length-map ports (port_tree names)))

pub returns-clause-passed : goal.returns-clause-passed
returns-clause-passed g c =
    let told = g.O.Sink.written in
    let event = c.event_name-shown.result.now in
    let outs = map (port_tree c.args.names.now) c.args.comp.now.outs.items in
    let values = values_of c.args.values.now in
    let last = ended c.args.names.now c.args.comp.now.outs.items c.deref-port-items.result.now values c.loop-at.at event c.deref-port-items.ensures.value c.loop-at-test.false in
    let all = λ (e : Text). named_line c.args.number (outputs_shown e outs values) in
    on_ok_weaker c.push-2.result
    (λ passed. subst (λ (e : Text). Passes (told c.args.out.now) c.args.held.now (told c.push-2.new.sink) c.push-2.new.self (all e)) c.event_name-shown.ensures
    (passed_up_to_all (told c.args.out.now) (told c.push-2.new.sink) c.args.held.now c.push-2.new.self [] (all event) refl
    (passed_up_to_more (told c.args.out.now) (told c.loop-at.out) (told c.push-2.new.sink) c.args.held.now c.loop-at.held c.push-2.new.self (10 ∷ []) _ [] (all event) last c.loop-at.invariant.passed passed)))
    (rw c.as_bytes-2.ensures.value at c.push-2.ensures.passed)

pub returns-clause-prefix : goal.returns-clause-prefix
returns-clause-prefix g c =
    let told = g.O.Sink.written in
    let event = c.event_name-shown.result.now in
    let outs = map (port_tree c.args.names.now) c.args.comp.now.outs.items in
    let values = values_of c.args.values.now in
    let last = ended c.args.names.now c.args.comp.now.outs.items c.deref-port-items.result.now values c.loop-at.at event c.deref-port-items.ensures.value c.loop-at-test.false in
    let all = λ (e : Text). named_line c.args.number (outputs_shown e outs values) in
    on_err_weaker c.push-2.result
    (λ prefix. subst (λ (e : Text). AppendsPrefix (told c.args.out.now) (told c.push-2.new.sink) (c.args.held.now ++ all e)) c.event_name-shown.ensures
    (passed_up_to_prefix (told c.args.out.now) (told c.loop-at.out) (told c.push-2.new.sink) c.args.held.now c.loop-at.held (10 ∷ []) _ [] (all event) last c.loop-at.invariant.passed prefix))
    (rw c.as_bytes-2.ensures.value at c.push-2.ensures.prefix)
