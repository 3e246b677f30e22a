use Rattle.std.proofs.Common.{◌≡◌, ◌++◌, [], List, length, drop, map}
use Rattle.stim_read.specs.TxText.{tx_entry_seen}
use Rattle.stim_read.specs.TxEvents.{events_seen}
use Rattle.stim_read.specs.TxRules.{Start, starts_in}
use Rattle.stim_read.specs.TxRun.{transaction_of, transaction_seen}
use Rattle.stim_read.specs.inside.TxWalk.{txs_fault}
use Rattle.stim_read.proofs.TxStartLemmas.{HasLast}
use Rattle.stim_read.proofs.txs.transactions.Given as goal

abbrev pub invariant-loop-entry : goal.invariant-loop-entry
invariant-loop-entry l = record {
  earlier : List Start;
  last : HasLast (events_seen l.events) l.last.items earlier;
  told : txs_fault (events_seen l.events) earlier (length l.txs.items) (starts_in (map tx_entry_seen (drop l.entry-index l.entries)))
      ≡ txs_fault (events_seen l.events) [] 0 (starts_in (map tx_entry_seen l.entries));
  pushed : map transaction_seen l.txs.items ++ map (transaction_of (events_seen l.events)) (starts_in (map tx_entry_seen (drop l.entry-index l.entries)))
      ≡ map (transaction_of (events_seen l.events)) (starts_in (map tx_entry_seen l.entries));
}
