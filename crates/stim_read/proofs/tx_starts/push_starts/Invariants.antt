use Rattle.std.proofs.Common.{◌≡◌, ◌-◌, ◌++◌, length, map}
use Rattle.std.specs.List.{range_with_len}
use Rattle.hw_bits.specs.Values.{values_of, widths_of}
use Rattle.stim_read.specs.TxText.{tx_entry_seen}
use Rattle.stim_read.specs.TxRun.{transaction_seen}
use Rattle.stim_read.specs.inside.TxWalk.{rows_from, start_rows, starts_fault, last_after, started}
use Rattle.stim_read.proofs.tx_starts.push_starts.Given as goal

abbrev pub invariant-loop-k : goal.invariant-loop-k
invariant-loop-k l = record {
  told : starts_fault l.last (length l.txs.items) l.delay (rows_from (tx_entry_seen l.entry) (range_with_len l.k (l.entry.repeat.times - l.k)))
      ≡ starts_fault l.fn.before (length l.initial.txs.items) l.delay (start_rows (tx_entry_seen l.entry));
  last : last_after l.last (rows_from (tx_entry_seen l.entry) (range_with_len l.k (l.entry.repeat.times - l.k))) ≡ last_after l.fn.before (start_rows (tx_entry_seen l.entry));
  pushed : map transaction_seen l.txs.items ++ map (started l.event (values_of l.values) (widths_of l.values)) (rows_from (tx_entry_seen l.entry) (range_with_len l.k (l.entry.repeat.times - l.k)))
      ≡ map transaction_seen l.initial.txs.items ++ map (started l.event (values_of l.values) (widths_of l.values)) (start_rows (tx_entry_seen l.entry));
}
