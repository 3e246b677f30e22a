use Rattle.std.proofs.Common.{◌≡◌, drop, map}
use Rattle.stim_read.specs.TxEvents.{event_seen}
use Rattle.stim_read.specs.TxRun.{transaction_seen}
use Rattle.stim_read.proofs.TxRunLemmas.{rows_after}
use Rattle.stim_read.proofs.txs.run_rows.Given as goal

abbrev pub invariant-loop-tx : goal.invariant-loop-tx
invariant-loop-tx l =
    rows_after (map event_seen l.events) l.rows (map transaction_seen (drop l.tx-index l.txs)) ≡ rows_after (map event_seen l.events) 0 (map transaction_seen l.txs)
