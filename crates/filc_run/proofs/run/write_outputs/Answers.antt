use Rattle.std.proofs.Common.{rules, [], List, false, map, refl, ap, subst, ◌∙◌}
use Rattle.std.specs.Prelude.{OnOk, OnErr}
use Rattle.std.specs.Io.KnownBytes.{Appends}
use Rattle.hw_io.specs.Writing.{AppendsPrefix}
use Rattle.net_core.specs.Netlist.{netlist_of}
use Rattle.fil_ast.specs.Signature.{component_signature}
use Rattle.fil_ast.specs.Tree.{Component, design_of}
use Rattle.fil_ast.specs.declared.tx.Tx.{Tx}
use Rattle.fil_sig.specs.Seen.{seen}
use Rattle.stim_read.specs.TxRun.{transaction_seen}
use Rattle.filc_load.proofs.TransactionLemmas.{same_component}
use Rattle.filc_stop.proofs.SinkLemmas.{keeps_all, none_prefix}
use Rattle.filc_run.proofs.FitLemmas.{fits_call, leaves_call, top_at, transactions_for}
use Rattle.filc_run.proofs.MeantLemmas.{driven_stops, outputs_part, outputs_written}
use Rattle.filc_run.specs.Meant.{meant_text, rows_taken}
use Rattle.filc_run.proofs.run.write_outputs.Goals as goal

pub returns-in_err-lowered-clause-part : goal.returns-in_err-lowered-clause-part
returns-in_err-lowered-clause-part g c comp at =
    let told = g.O.Sink.written c.args.out.now in
    let none = none_prefix told told (meant_text (design_of c.args.design.now.design) comp (map transaction_seen c.args.list.now.txs.items)) (keeps_all told) in
    search (rules, none)

pub run_transactions-requires-clause-fits : goal.run_transactions-requires-clause-fits
run_transactions-requires-clause-fits g c =
    let b = c.args.design.now in
    let made = c.in_ok-lowered.ensures in
    let n = netlist_of c.in_ok-lowered.lowered.built.net in
    let top = top_at b c.requires.ready n made.refines in
    let call = c.transactions in
    fits_call n (component_signature made.refines.c) (seen call.result.sig.now) c.args.list.now call.result.list.now (ap seen call.ensures.sig ∙ made.sig made.refines.c top) call.ensures.list
    (transactions_for (design_of b.design) n made.refines c.requires.ready.rules c.args.list.now (c.requires.transactions made.refines.c top))

pub returns : goal.returns
returns g c =
    let b = c.args.design.now in
    let design = design_of b.design in
    let rules_kept = c.requires.ready.rules in
    let list = c.args.list.now in
    let made = c.in_ok-lowered.ensures in
    let n = netlist_of c.in_ok-lowered.lowered.built.net in
    let comp = made.refines.c in
    let top = top_at b c.requires.ready n made.refines in
    let are = c.requires.transactions comp top in
    let call = c.transactions in
    let out = g.O.Sink.written c.args.out.now in
    let out' = g.O.Sink.written c.run_transactions.new.out in
    let same_rows = call.ensures.rows ∙ made.rows comp top ∙ ap (λ (txs : List Tx). rows_taken comp (map transaction_seen txs)) c.deref.ensures.value in
    let leaves = leaves_call n (component_signature comp) (seen call.result.sig.now) list call.result.list.now (rows_taken comp (map transaction_seen list.txs.items)) call.result.rows [] [] false c.run_transactions.result out out'
    (ap seen call.ensures.sig ∙ made.sig comp top) call.ensures.list same_rows refl c.run_transactions.ensures.leaves in
    record {
      written = λ other at.
          subst (λ (d : Component). OnOk c.run_transactions.result (Appends out out' (meant_text design d (map transaction_seen list.txs.items)))) (same_component design b.top comp other top at)
          (outputs_written design n made.refines rules_kept list are c.run_transactions.result out out' leaves);
      part = λ other at.
          subst (λ (d : Component). OnErr c.run_transactions.result (AppendsPrefix out out' (meant_text design d (map transaction_seen list.txs.items)))) (same_component design b.top comp other top at)
          (outputs_part design n made.refines rules_kept list are c.run_transactions.result out out' leaves);
      stops = driven_stops design n made.refines rules_kept list are [] false c.run_transactions.result out out' c.run_transactions.ensures.stops leaves;
      write_fault = c.run_transactions.ensures.write_fault;
      never_falls = c.run_transactions.ensures.never_falls;
    }
