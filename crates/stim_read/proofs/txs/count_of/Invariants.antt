use Rattle.std.proofs.Common.{◌≡◌, ◌≤◌, ◌+◌, ◌-◌, ◌^◌, drop, map}
use Rattle.std.specs.List.{sum_by}
use Rattle.stim_read.specs.TxText.{Starts, tx_entry_seen}
use Rattle.stim_read.specs.TxRun.{saturated, count_of}
use Rattle.stim_read.proofs.txs.count_of.Given as goal

abbrev pub invariant-loop-entry : goal.invariant-loop-entry
invariant-loop-entry l = record {
  small : l.count ≤ 2 ^ 64 - 1;
  count : saturated (l.count + sum_by (λ (e : Starts). e.repeat.times) (map tx_entry_seen (drop l.entry-index l.entries))) ≡ count_of (map tx_entry_seen l.entries);
}
