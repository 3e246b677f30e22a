use Rattle.std.proofs.Common.{ap, subst, ◌∙◌}
use Rattle.net_core.specs.Netlist.{netlist_of}
use Rattle.fil_ast.specs.Signature.{component_signature}
use Rattle.fil_driven.specs.TxDrive.{driven_by}
use Rattle.fil_sig.specs.Seen.{seen}
use Rattle.stim_read.specs.TxRun.{tx_run_seen}
use Rattle.filc_report.specs.Runs.{no_loads}
use Rattle.filc_report.specs.Sums.{AreAdded, due_in}
use Rattle.filc_run.proofs.SoakLemmas.{added_call, never_meets, soak_fits}
use Rattle.filc_run.specs.Soaked.{soak, soak_rows, soak_run}
use Rattle.filc_run.proofs.soak.Soak.sums.Goals as goal

pub sum_transactions-requires-clause-fits : goal.sum_transactions-requires-clause-fits
sum_transactions-requires-clause-fits c =
    let s = c.args.self.now in
    let is = c.requires in
    let call = c.transactions-txs in
    soak_fits s.count is.few s.list is.list (netlist_of s.lowered.built.net) is.refines (seen call.result.sig.now) call.result.list.now (ap seen call.ensures.sig ∙ is.sig) call.ensures.list

pub unreachable-requires : goal.unreachable-requires
unreachable-requires c =
    let s = c.args.self.now in
    let is = c.requires in
    let n = netlist_of s.lowered.built.net in
    let call = c.transactions-txs in
    let run = driven_by (component_signature soak) (soak_run s.count) in
    let due = due_in (component_signature soak).outs (soak_run s.count).transactions in
    let added =
    added_call n (component_signature soak) (seen call.result.sig.now) (soak_run s.count) (tx_run_seen call.result.list.now) (soak_rows s.count) call.result.rows c.in_ok-sums.field-0 (ap seen call.ensures.sig ∙ is.sig)
    (ap tx_run_seen call.ensures.list ∙ is.list) (call.ensures.rows ∙ is.rows) c.in_ok-sums.ensures in
    never_meets s.count is.few s.list is.list n is.refines (subst (AreAdded n due (soak_rows s.count) run no_loads) c.in-None.is added)
