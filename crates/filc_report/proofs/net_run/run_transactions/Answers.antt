use Rattle.std.proofs.Common.{refl}
use Rattle.net_core.specs.Netlist.{netlist_of}
use Rattle.fil_sig.specs.Seen.{seen}
use Rattle.stim_read.specs.TxRun.{tx_run_seen}
use Rattle.filc_report.specs.Runs.{no_loads}
use Rattle.fil_driven.specs.TxDrive.{driven_by}
use Rattle.filc_report.proofs.RunLemmas.{loaded_stands}
use Rattle.filc_report.proofs.net_run.run_transactions.Goals as goal

pub returns-clause-leaves : goal.returns-clause-leaves
returns-clause-leaves g c =
    let net = c.args.built.now.net in
    let txs = c.args.txs in
    c.write_run.ensures.leaves no_loads (loaded_stands net (netlist_of net) no_loads c.in_ok-sim.sim (driven_by (seen txs.sig.now) (tx_run_seen txs.list.now)) refl c.in_ok-sim.ensures)
