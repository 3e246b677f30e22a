use Rattle.std.proofs.Common.{◌≡◌, ◌≤◌, ◌-◌, ◌*◌, ◌++◌, map}
use Rattle.stim_read.specs.TxRun.{transaction_seen}
use Rattle.filc_run.specs.Soaked.{soak_transactions, transactions_from}
use Rattle.filc_run.proofs.soak.soak_transactions.Given as goal

-- the transactions so far, and those from the next number and start on, are all
abbrev pub invariant-loop : goal.invariant-loop
invariant-loop l = record {
  made : map transaction_seen l.txs.items ++ transactions_from (l.count - l.counter) l.number l.start ≡ soak_transactions l.count;
  early : l.start ≤ 2 * l.counter;
}
