use Rattle.std.proofs.Common.{◌≡◌, ℕ, List, sym, ap, subst}
use Rattle.hw_prims.specs.Row.{Trace}
use Rattle.net_core.specs.Netlist.{Netlist, netlist_of}
use Rattle.net_core.specs.Table.{IsTableOf}
use Rattle.fil_driven.specs.TxDrive.{driven_by}
use Rattle.fil_sig.specs.Seen.{seen}
use Rattle.stim_read.specs.TxRun.{tx_run_seen}
use Rattle.filc_report.specs.Driving.{AreInputsAt, FitsDrive}
use Rattle.filc_report.specs.Runs.{no_loads}
use Rattle.filc_report.specs.Sums.{AreAdded, due_in, sum_seen}
use Rattle.filc_report.specs.declared.drive.Drive.{Drive}
use Rattle.filc_report.specs.declared.drive.Drive.TheVariants.{Txs}
use Rattle.filc_report.proofs.RunLemmas.{loaded_stands}
use Rattle.filc_report.proofs.SumLemmas.{are_added_so, due_seen}
use Rattle.filc_report.proofs.sums.sum_transactions.Goals as goal

pub returns : goal.returns
returns c =
    let net = c.args.built.now.net in
    let n = netlist_of net in
    let sim = c.in_ok-sim.sim in
    let view = c.in_ok-view.view in
    let list = c.args.txs.list.now in
    let sig = c.args.txs.sig.now in
    let rows = c.args.txs.rows in
    let names = c.args.built.now.table.names in
    let inputs : Trace = driven_by (seen sig) (tx_run_seen list) in
    let same : netlist_of sim.net ≡ n = ap netlist_of c.in_ok-sim.ensures.net_is in
    let added = c.add_rows.ensures no_loads (loaded_stands net (netlist_of sim.net) no_loads sim inputs (sym same) c.in_ok-sim.ensures) in
    are_added_so n (sum_seen names list.txs.items view) (due_in (seen sig).outs (tx_run_seen list).transactions) rows inputs no_loads c.add_rows.result
    (due_seen n names view list.txs.items sig.outs.items c.requires.fits.ports.outs c.in_ok-view.ensures.ports c.in_ok-view.ensures.intervals c.in_ok-view.ensures.at.marks c.in_ok-view.ensures.within)
    (subst (λ (m : Netlist). AreAdded m (sum_seen names list.txs.items view) rows inputs no_loads c.add_rows.result) same added)
