use Rattle.std.proofs.Common.{rules, ◌++◌, [], length, map, arith, sym, ap, subst, ◌∙◌}
use Rattle.std.specs.Io.KnownBytes.{Appends}
use Rattle.std.proofs.lemmas.List.{length-map}
use Rattle.hw_bits.specs.Values.{values_of, widths_of}
use Rattle.hw_bits.specs.declared.bits.Bits.{Bits}
use Rattle.hw_io.specs.Writing.{AppendsPrefix, Passes}
use Rattle.hw_names.specs.Name.{Text}
use Rattle.fil_ast.specs.Tree.{DataPort, Component, component_tree, design_of, event_tree, port_tree}
use Rattle.stim_read.specs.TxRun.{transaction_seen}
use Rattle.filc_load.specs.Built.{FitsComponent}
use Rattle.filc_report.specs.Transactions.{flow_lines}
use Rattle.filc_report.proofs.FlowLemmas.{mapped_here, next_flow, end_of_flows, flow_line_is, dataflow_of}
use Rattle.filc_report.proofs.PassingLemmas.{passed_up_to_part, passed_up_to_written, passed_up_to_unwritten}
use Rattle.filc_stop.proofs.SinkLemmas.{passed_up_to_more, passed_up_to_prefix}
use Rattle.filc_load.proofs.TransactionLemmas.{has_widths, is_top_of, same_component}
use Rattle.filc_report.proofs.flows.write_flows.Goals as goal

pub inputs_of-requires-clause-numbered : goal.inputs_of-requires-clause-numbered
inputs_of-requires-clause-numbered g c = (is_top_of c.args.built.now c.index-comp.result.now c.requires.ready c.index-comp.ensures).numbers

pub inputs_of-requires-clause-wide : goal.inputs_of-requires-clause-wide
inputs_of-requires-clause-wide g c =
    let top = is_top_of c.args.built.now c.index-comp.result.now c.requires.ready c.index-comp.ensures in
    has_widths (design_of c.args.built.now.design) c.requires.ready.rules c.args.built.now.top _ top.at

pub inputs_of-requires-clause-fits : goal.inputs_of-requires-clause-fits
inputs_of-requires-clause-fits g c =
    let b = c.args.built.now in
    let tree = component_tree b.design.names c.index-comp.result.now in
    let top = is_top_of b c.index-comp.result.now c.requires.ready c.index-comp.ensures in
    subst (FitsComponent tree) (sym c.index-txs-number.is) (c.requires.fits tree top.at c.loop-number.number c.index-txs-number.result c.loop-number-test.true)

pub returns-in_err-inputs-clause-part : goal.returns-in_err-inputs-clause-part
returns-in_err-inputs-clause-part g c other at =
    let told = g.O.Sink.written in
    let b = c.args.built.now in
    let design = design_of b.design in
    let ts = map transaction_seen c.args.txs.now in
    let top = is_top_of b c.index-comp.result.now c.requires.ready c.index-comp.ensures in
    let part = passed_up_to_part (told c.args.out.now) (told c.loop-number.out) [] c.loop-number.held _ _ c.loop-number.invariant.passed in
    let prefix = subst (λ (x : Component). AppendsPrefix (told c.args.out.now) (told c.loop-number.out) (flow_lines design x 0 ts)) (same_component design b.top _ other top.at at) part in
    search (rules, prefix)

pub values-requires : goal.values-requires
values-requires g c =
    let b = c.args.built.now in
    let tree = component_tree b.design.names c.index-comp.result.now in
    let top = is_top_of b c.index-comp.result.now c.requires.ready c.index-comp.ensures in
    let dataflow = dataflow_of b.design c.new.result b.top tree c.in_ok-dataflow.dataflow c.new.ensures top.at c.in_ok-dataflow.ensures in
    (design_of b.design, tree, dataflow, ap widths_of c.deref.ensures.value ∙ c.in_ok-inputs.ensures.widths)

pub returns-in_err-values-clause-part : goal.returns-in_err-values-clause-part
returns-in_err-values-clause-part g c other at =
    let told = g.O.Sink.written in
    let b = c.args.built.now in
    let design = design_of b.design in
    let ts = map transaction_seen c.args.txs.now in
    let top = is_top_of b c.index-comp.result.now c.requires.ready c.index-comp.ensures in
    let part = passed_up_to_part (told c.args.out.now) (told c.loop-number.out) [] c.loop-number.held _ _ c.loop-number.invariant.passed in
    let prefix = subst (λ (x : Component). AppendsPrefix (told c.args.out.now) (told c.loop-number.out) (flow_lines design x 0 ts)) (same_component design b.top _ other top.at at) part in
    search (rules, prefix)

pub push_flow-requires : goal.push_flow-requires
push_flow-requires g c =
    let b = c.args.built.now in
    let comp = c.index-comp.result.now in
    let tree = component_tree b.design.names comp in
    let top = is_top_of b comp c.requires.ready c.index-comp.ensures in
    let fits = subst (FitsComponent tree) (sym c.index-txs-number.is) (c.requires.fits tree top.at c.loop-number.number c.index-txs-number.result c.loop-number-test.true) in
    let dataflow = dataflow_of b.design c.new.result b.top tree c.in_ok-dataflow.dataflow c.new.ensures top.at c.in_ok-dataflow.ensures in
    let wide = c.in_ok-values.ensures.widths (design_of b.design) tree dataflow (ap widths_of c.deref.ensures.value ∙ c.in_ok-inputs.ensures.widths) in
    let shown = ap length wide in
    record {
      numbered = top.numbers;
      event = omega (arith, fits.event, length-map comp.events.items (event_tree b.design.names));
      each = omega (arith, ap length c.deref-in-loop-number.ensures.value, shown, length-map c.in_ok-values.values.items (λ (x : Bits). x.width), length-map tree.outs (λ (p : DataPort). p.width), length-map comp.outs.items (port_tree b.design.names));
    }

pub returns-in_err-push_flow-clause-part : goal.returns-in_err-push_flow-clause-part
returns-in_err-push_flow-clause-part g c other at =
    let told = g.O.Sink.written in
    let b = c.args.built.now in
    let design = design_of b.design in
    let tree = component_tree b.design.names c.index-comp.result.now in
    let ts = map transaction_seen c.args.txs.now in
    let i = c.loop-number.number in
    let tx = c.index-txs-number.result in
    let top = is_top_of b c.index-comp.result.now c.requires.ready c.index-comp.ensures in
    let dataflow = dataflow_of b.design c.new.result b.top tree c.in_ok-dataflow.dataflow c.new.ensures top.at c.in_ok-dataflow.ensures in
    let flows = c.in_ok-values.ensures.values design tree dataflow (ap widths_of c.deref.ensures.value ∙ c.in_ok-inputs.ensures.widths) in
    let line = flow_line_is design tree i tx (values_of c.deref.result.now) (values_of c.deref-in-loop-number.result.now) (ap values_of c.deref.ensures.value ∙ c.in_ok-inputs.ensures.values) (ap values_of c.deref-in-loop-number.ensures.value ∙ flows) in
    let late = subst (λ (text : Text). AppendsPrefix (told c.loop-number.out) (told c.push_flow.new.out) (c.loop-number.held ++ text)) line c.in_err-push_flow.ensures.prefix in
    let step = next_flow design tree ts i (transaction_seen tx) (mapped_here transaction_seen c.args.txs.now i tx c.loop-number-test.true c.index-txs-number.is) in
    let part = passed_up_to_prefix (told c.args.out.now) (told c.loop-number.out) (told c.push_flow.new.out) [] c.loop-number.held _ _ _ (flow_lines design tree 0 ts) step c.loop-number.invariant.passed late in
    let prefix = subst (λ (x : Component). AppendsPrefix (told c.args.out.now) (told c.push_flow.new.out) (flow_lines design x 0 ts)) (same_component design b.top tree other top.at at) part in
    search (rules, prefix)

pub loop-number-preserved : goal.loop-number-preserved
loop-number-preserved g c =
    let told = g.O.Sink.written in
    let b = c.args.built.now in
    let design = design_of b.design in
    let tree = component_tree b.design.names c.index-comp.result.now in
    let ts = map transaction_seen c.args.txs.now in
    let i = c.loop-number.number in
    let tx = c.index-txs-number.result in
    let top = is_top_of b c.index-comp.result.now c.requires.ready c.index-comp.ensures in
    let dataflow = dataflow_of b.design c.new.result b.top tree c.in_ok-dataflow.dataflow c.new.ensures top.at c.in_ok-dataflow.ensures in
    let flows = c.in_ok-values.ensures.values design tree dataflow (ap widths_of c.deref.ensures.value ∙ c.in_ok-inputs.ensures.widths) in
    let line = flow_line_is design tree i tx (values_of c.deref.result.now) (values_of c.deref-in-loop-number.result.now) (ap values_of c.deref.ensures.value ∙ c.in_ok-inputs.ensures.values) (ap values_of c.deref-in-loop-number.ensures.value ∙ flows) in
    let late = subst (λ (text : Text). Passes (told c.loop-number.out) c.loop-number.held (told c.push_flow.new.out) c.push_flow.new.held text) line c.in_ok-push_flow.ensures.passed in
    let step = next_flow design tree ts i (transaction_seen tx) (mapped_here transaction_seen c.args.txs.now i tx c.loop-number-test.true c.index-txs-number.is) in
    record {
      passed = passed_up_to_more (told c.args.out.now) (told c.loop-number.out) (told c.push_flow.new.out) [] c.loop-number.held c.push_flow.new.held _ _ _ (flow_lines design tree 0 ts) step c.loop-number.invariant.passed late;
      never_falls = omega (arith, c.loop-number.invariant.never_falls, c.in_ok-push_flow.ensures.never_falls);
    }

pub returns-in_err-flush-clause-part : goal.returns-in_err-flush-clause-part
returns-in_err-flush-clause-part g c other at =
    let told = g.O.Sink.written in
    let b = c.args.built.now in
    let design = design_of b.design in
    let tree = component_tree b.design.names c.index-comp.result.now in
    let ts = map transaction_seen c.args.txs.now in
    let top = is_top_of b c.index-comp.result.now c.requires.ready c.index-comp.ensures in
    let last = end_of_flows design tree ts c.loop-number.number (omega (arith, c.loop-number-test.false, length-map c.args.txs.now transaction_seen)) in
    let part = passed_up_to_unwritten (told c.args.out.now) (told c.loop-number.out) (told c.flush.new.sink) c.loop-number.held _ _ last c.loop-number.invariant.passed c.in_err-flush.ensures.prefix in
    let prefix = subst (λ (x : Component). AppendsPrefix (told c.args.out.now) (told c.flush.new.sink) (flow_lines design x 0 ts)) (same_component design b.top tree other top.at at) part in
    search (rules, prefix)

pub returns-clause-written : goal.returns-clause-written
returns-clause-written g c other at =
    let told = g.O.Sink.written in
    let b = c.args.built.now in
    let design = design_of b.design in
    let tree = component_tree b.design.names c.index-comp.result.now in
    let ts = map transaction_seen c.args.txs.now in
    let top = is_top_of b c.index-comp.result.now c.requires.ready c.index-comp.ensures in
    let last = end_of_flows design tree ts c.loop-number.number (omega (arith, c.loop-number-test.false, length-map c.args.txs.now transaction_seen)) in
    subst (λ (x : Component). Appends (told c.args.out.now) (told c.flush.new.sink) (flow_lines design x 0 ts)) (same_component design b.top tree other top.at at)
    (passed_up_to_written (told c.args.out.now) (told c.loop-number.out) (told c.flush.new.sink) c.loop-number.held _ _ last c.loop-number.invariant.passed c.in_ok-flush.ensures.appended)
