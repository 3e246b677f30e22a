use Rattle.std.proofs.Common.{rules, List, [], ◌∷◌, ◌++◌, true, map, ap, subst, ◌∙◌, inl}
use Rattle.net_core.specs.Netlist.{netlist_of}
use Rattle.net_text.specs.Layout.{net_text}
use Rattle.fil_ast.specs.Signature.{component_signature}
use Rattle.fil_ast.specs.Tree.{Component, design_of}
use Rattle.fil_ast.specs.declared.tx.Tx.{Tx}
use Rattle.fil_sig.specs.Seen.{seen}
use Rattle.stim_read.specs.TxRun.{transaction_seen, tx_run_seen}
use Rattle.filc_load.proofs.TransactionLemmas.{same_component}
use Rattle.filc_stop.proofs.SinkLemmas.{keeps_all}
use Rattle.filc_stop.specs.Leaving.{IsCutShort, Leaves}
use Rattle.filc_run.proofs.FitLemmas.{fits_call, leaves_call, top_at, transactions_for}
use Rattle.filc_run.proofs.MeantLemmas.{driven_stops}
use Rattle.filc_run.proofs.TraceLemmas.{trace_leaves}
use Rattle.filc_run.specs.Meant.{rows_taken}
use Rattle.filc_run.specs.Traced.{IsMadeOf, Traces}
use Rattle.filc_run.proofs.run.write_trace.Goals as goal

pub returns-in_err-lowered-clause-leaves : goal.returns-in_err-lowered-clause-leaves
returns-in_err-lowered-clause-leaves g c comp at =
    let told = g.O.Sink.written c.args.out.now in
    let design = design_of c.args.design.now.design in
    let nothing : IsCutShort (IsMadeOf design) (Traces design comp (tx_run_seen c.args.list.now)) told told = inl (keeps_all told) in
    search (rules, nothing)

pub with_empty_line-requires : goal.with_empty_line-requires
with_empty_line-requires g c = c.in_ok-lowered.ensures.ready.numbers

pub returns-in_err-head-clause-leaves : goal.returns-in_err-head-clause-leaves
returns-in_err-head-clause-leaves g c comp at =
    let told = g.O.Sink.written c.args.out.now in
    let design = design_of c.args.design.now.design in
    let nothing : IsCutShort (IsMadeOf design) (Traces design comp (tx_run_seen c.args.list.now)) told told = inl (keeps_all told) in
    search (rules, nothing)

pub run_transactions-requires-clause-fits : goal.run_transactions-requires-clause-fits
run_transactions-requires-clause-fits g c =
    let b = c.args.design.now in
    let made = c.in_ok-lowered.ensures in
    let n = netlist_of c.in_ok-lowered.lowered.built.net in
    let top = top_at b c.requires.ready n made.refines in
    let call = c.transactions in
    fits_call n (component_signature made.refines.c) (seen call.result.sig.now) c.args.list.now call.result.list.now (ap seen call.ensures.sig ∙ made.sig made.refines.c top) call.ensures.list
    (transactions_for (design_of b.design) n made.refines c.requires.ready.rules c.args.list.now (c.requires.transactions made.refines.c top))

pub returns : goal.returns
returns g c =
    let b = c.args.design.now in
    let design = design_of b.design in
    let rules_kept = c.requires.ready.rules in
    let list = c.args.list.now in
    let made = c.in_ok-lowered.ensures in
    let built = c.in_ok-lowered.lowered.built in
    let n = netlist_of built.net in
    let comp = made.refines.c in
    let top = top_at b c.requires.ready n made.refines in
    let are = c.requires.transactions comp top in
    let call = c.transactions in
    let out = g.O.Sink.written c.args.out.now in
    let out' = g.O.Sink.written c.run_transactions.new.out in
    let head = net_text n ++ 10 ∷ [] in
    let same_rows = call.ensures.rows ∙ made.rows comp top ∙ ap (λ (txs : List Tx). rows_taken comp (map transaction_seen txs)) c.deref.ensures.value in
    let leaves = leaves_call n (component_signature comp) (seen call.result.sig.now) list call.result.list.now (rows_taken comp (map transaction_seen list.txs.items)) call.result.rows head c.deref-2.result.now true c.run_transactions.result out out'
    (ap seen call.ensures.sig ∙ made.sig comp top) call.ensures.list same_rows (c.deref-2.ensures.value ∙ c.in_ok-head.ensures) c.run_transactions.ensures.leaves in
    record {
      leaves = λ other at.
          subst (λ (d : Component). Leaves (IsMadeOf design) (Traces design d (tx_run_seen list)) c.run_transactions.result out out') (same_component design b.top comp other top at)
          (trace_leaves design n made.refines rules_kept list are made.folded made.text built.order.ports made.ready.order.ports c.run_transactions.result out out' leaves);
      stops = driven_stops design n made.refines rules_kept list are head true c.run_transactions.result out out' c.run_transactions.ensures.stops leaves;
      write_fault = c.run_transactions.ensures.write_fault;
      never_falls = c.run_transactions.ensures.never_falls;
    }
