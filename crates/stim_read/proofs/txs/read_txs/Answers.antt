use Rattle.std.proofs.Common.{sym, subst}
use Rattle.fil_sig.specs.Seen.{seen}
use Rattle.stim_read.specs.CycleRun.{NoMemory}
use Rattle.stim_read.specs.TxText.{transactions_seen}
use Rattle.stim_read.specs.TxEvents.{EventList, events_of, events_seen}
use Rattle.stim_read.specs.TxRun.{IsTxCause, NoTransactions, NoJson}
use Rattle.stim_read.specs.inside.TxWalk.{AreUsable}
use Rattle.stim_read.specs.declared.stim_end.StimEnd.TheVariants.{Memory}
use Rattle.stim_read.proofs.FaultLemmas.{passes_cause}
use Rattle.stim_read.proofs.TxFitLemmas.{result_fits_signature}
use Rattle.stim_read.proofs.TxLegalLemmas.{result_is_legal}
use Rattle.stim_read.proofs.TxSaidLemmas.{entries_said, usable, gives_transactions, tells_tx_cause}
use Rattle.stim_read.proofs.txs.read_txs.Goals as goal

pub returns-in_err-text-clause-cause : goal.returns-in_err-text-clause-cause
returns-in_err-text-clause-cause c =
    let e = c.in_err-text.field-0.0 in
    passes_cause c.from_residual.result e (IsTxCause c.args.bytes.now (events_of (seen c.args.sig.now))) c.from_residual.ensures.1 (NoTransactions e c.in_err-text.ensures.cause)

pub returns-in_err-events-clause-cause : goal.returns-in_err-events-clause-cause
returns-in_err-events-clause-cause c =
    passes_cause c.from_residual-in_err-events.result Memory (IsTxCause c.args.bytes.now (events_of (seen c.args.sig.now))) c.from_residual-in_err-events.ensures.1
    (NoTransactions Memory (NoJson Memory NoMemory))

pub judge-requires-clause-events : goal.judge-requires-clause-events
judge-requires-clause-events c = subst (λ (ev : EventList). AreUsable ev) (sym c.in_ok-events.ensures) (usable (seen c.args.sig.now) c.requires.widths c.requires.few)

pub judge-requires-clause-entries : goal.judge-requires-clause-entries
judge-requires-clause-entries c = let said = c.in_ok-text.ensures.text in entries_said said.value (transactions_seen c.in_ok-text.text) said.says

pub returns-clause-run : goal.returns-clause-run
returns-clause-run c =
    gives_transactions c.args.bytes.now (events_seen c.in_ok-events.events) (events_of (seen c.args.sig.now)) (transactions_seen c.in_ok-text.text) c.judge.result
    c.in_ok-events.ensures c.in_ok-text.ensures.text c.judge.ensures.told c.judge.ensures.run

pub returns-clause-fits : goal.returns-clause-fits
returns-clause-fits c = result_fits_signature c.args.bytes.now (seen c.args.sig.now) c.judge.result (returns-clause-run c)

pub returns-clause-legal : goal.returns-clause-legal
returns-clause-legal c = result_is_legal c.args.bytes.now (seen c.args.sig.now) c.judge.result (returns-clause-run c)

pub returns-clause-cause : goal.returns-clause-cause
returns-clause-cause c =
    tells_tx_cause c.args.bytes.now (events_seen c.in_ok-events.events) (events_of (seen c.args.sig.now)) (transactions_seen c.in_ok-text.text) c.judge.result
    c.in_ok-events.ensures c.in_ok-text.ensures.text c.judge.ensures.told
