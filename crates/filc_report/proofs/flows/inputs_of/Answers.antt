use Rattle.std.proofs.Common.{◌+◌, ◌≤◌, true, false, List, length, map, filter, get_or, arith, sym, ap, subst, ◌∙◌}
use Rattle.hw_bits.proofs.WidthLemmas.{low_bits-of_lt}
use Rattle.std.proofs.lemmas.List.{length-map}
use Rattle.std.proofs.lemmas.Nat.{pow_pos}
use Rattle.hw_bits.specs.Values.{values_of}
use Rattle.hw_bits.specs.declared.bits.Bits.{Bits}
use Rattle.hw_names.specs.Name.{Text}
use Rattle.fil_ast.specs.Transactions.{inputs_given, is_of_event}
use Rattle.fil_ast.specs.Tree.{port_tree}
use Rattle.fil_ast.specs.declared.tree.FilPort.{FilPort}
use Rattle.fil_flow.specs.Shown.{port_widths}
use Rattle.filc_report.proofs.FlowLemmas.{AreGiven, port_here, of_event, width_here, given_none, given_all, given_within, given_own, given_other}
use Rattle.filc_report.proofs.flows.inputs_of.Goals as goal
use Rattle.filc_report.proofs.flows.inputs_of.Goals.{then-eq+in_ok-push, else-eq+in_ok-push-2}

no_port : FilPort
no_port = record { from = record { event = record { 0 = 0 }; plus = 0 }; to = record { event = record { 0 = 0 }; plus = 0 }; name = record { 0 = 0 }; width = 0 }

pub loop-port-init : goal.loop-port-init
loop-port-init c =
    let ports = map (port_tree c.args.names.now) c.args.comp.now.ins.items in
    let event = c.event_name-event.result.now in
    let given = c.args.tx.now.values.items in
    let fits = c.requires.fits.widths ∙ ap (λ (e : Text). port_widths (filter (is_of_event e) ports)) (sym c.event_name-event.ensures) in
    subst (λ (xs : List Bits). AreGiven event ports given 0 0 xs) (sym c.new-inputs.ensures.items) (given_none event ports given fits)

pub index-requires : goal.index-requires
unfolding no_port
index-requires c =
    let names = c.args.names.now in
    let event = c.event_name-event.result.now in
    let i = c.loop-port.port-index in
    let port = get_or c.deref-port-items.result.now i no_port in
    let here = port_here names c.args.comp.now.ins.items c.deref-port-items.result.now i no_port c.deref-port-items.ensures.value c.loop-port-test.true in
    let is = of_event names port event c.text.result.now c.eq.result true c.text.ensures c.eq.ensures c.if-eq.true in
    let within = given_within event (map (port_tree names) c.args.comp.now.ins.items) c.args.tx.now.values.items i c.loop-port.given c.loop-port.inputs.items c.loop-port.invariant (port_tree names port) here is in
    omega (arith, within, c.args.tx.now.values.ok.0)

pub overflow_cast-port : goal.overflow_cast-port
unfolding no_port
overflow_cast-port c =
    let wide = width_here c.args.names.now c.args.comp.now.ins.items c.deref-port-items.result.now c.loop-port.port-index no_port c.requires.wide.ins c.deref-port-items.ensures.value c.loop-port-test.true in
    omega (arith, wide.1)

pub wrap-requires : goal.wrap-requires
unfolding no_port
wrap-requires c =
    let wide = width_here c.args.names.now c.args.comp.now.ins.items c.deref-port-items.result.now c.loop-port.port-index no_port c.requires.wide.ins c.deref-port-items.ensures.value c.loop-port-test.true in
    record { wide = wide.0; narrow = wide.1 }

pub loop-port-preserved : goal.loop-port-preserved
unfolding no_port
loop-port-preserved c =
    let names = c.args.names.now in
    let event = c.event_name-event.result.now in
    let i = c.loop-port.port-index in
    let port = get_or c.deref-port-items.result.now i no_port in
    let ports = map (port_tree names) c.args.comp.now.ins.items in
    let given = c.args.tx.now.values.items in
    let taken = c.loop-port.given in
    let inputs = c.loop-port.inputs.items in
    let here = port_here names c.args.comp.now.ins.items c.deref-port-items.result.now i no_port c.deref-port-items.ensures.value c.loop-port-test.true in
    elim c.if-eq.branch [
      | then-eq+in_ok-push w ↦
          let is = of_event names port event c.text.result.now c.eq.result true c.text.ensures c.eq.ensures w.if-eq.true in
          let next = given_own event ports given i taken inputs c.loop-port.invariant (port_tree names port) here w.index.result.now is w.index.ensures in
          rw (w.given-is, w.inputs-is) (subst (λ (xs : List Bits). AreGiven event ports given (i + 1) (taken + 1) xs) (sym w.in_ok-push.ensures.items) next)
      | else-eq+in_ok-push-2 w ↦
          let is = of_event names port event c.text.result.now c.eq.result false c.text.ensures c.eq.ensures w.if-eq.false in
          let next = given_other event ports given i taken inputs c.loop-port.invariant (port_tree names port) here w.wrap.result is (w.wrap.ensures.value ∙ low_bits-of_lt (port_tree names port).width 0 (pow_pos (port_tree names port).width)) w.wrap.ensures.width in
          rw (w.given-is, w.inputs-is) (subst (λ (xs : List Bits). AreGiven event ports given (i + 1) taken xs) (sym w.in_ok-push-2.ensures.items) next)
    ]

pub overflow_add-given : goal.overflow_add-given
unfolding no_port
overflow_add-given c =
    let names = c.args.names.now in
    let event = c.event_name-event.result.now in
    let i = c.loop-port.port-index in
    let port = get_or c.deref-port-items.result.now i no_port in
    let here = port_here names c.args.comp.now.ins.items c.deref-port-items.result.now i no_port c.deref-port-items.ensures.value c.loop-port-test.true in
    let is = of_event names port event c.text.result.now c.eq.result true c.text.ensures c.eq.ensures c.if-eq.true in
    let within = given_within event (map (port_tree names) c.args.comp.now.ins.items) c.args.tx.now.values.items i c.loop-port.given c.loop-port.inputs.items c.loop-port.invariant (port_tree names port) here is in
    omega (arith, within, c.args.tx.now.values.ok.0, c.args.tx.now.values.small)

pub returns-clause-values : goal.returns-clause-values
returns-clause-values c =
    let ports = map (port_tree c.args.names.now) c.args.comp.now.ins.items in
    let given = c.args.tx.now.values.items in
    let past : length ports ≤ c.loop-port.port-index = omega (arith, c.loop-port-test.false, ap length c.deref-port-items.ensures.value, length-map c.args.comp.now.ins.items (port_tree c.args.names.now)) in
    let all = given_all c.event_name-event.result.now ports given c.loop-port.port-index c.loop-port.given c.loop-port.inputs.items past c.loop-port.invariant in
    all.0 ∙ ap (λ (e : Text). inputs_given e ports (values_of given)) c.event_name-event.ensures

pub returns-clause-widths : goal.returns-clause-widths
returns-clause-widths c =
    let ports = map (port_tree c.args.names.now) c.args.comp.now.ins.items in
    let past : length ports ≤ c.loop-port.port-index = omega (arith, c.loop-port-test.false, ap length c.deref-port-items.ensures.value, length-map c.args.comp.now.ins.items (port_tree c.args.names.now)) in
    let all = given_all c.event_name-event.result.now ports c.args.tx.now.values.items c.loop-port.port-index c.loop-port.given c.loop-port.inputs.items past c.loop-port.invariant in
    all.1
