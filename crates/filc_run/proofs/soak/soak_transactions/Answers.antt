use Rattle.std.proofs.Common.{ℕ, ◌+◌, ◌-◌, ◌/◌, ◌≤◌, ◌^◌, ◌++◌, List, map, ap, ◌∙◌, arith}
use Rattle.fil_ast.specs.declared.tx.Tx.{Tx}
use Rattle.stim_read.specs.TxRun.{transaction_seen}
use Rattle.filc_run.specs.Soaked.{next_number, soak_transactions, transactions_from}
use Rattle.filc_run.proofs.SoakListLemmas.{one_made}
use Rattle.filc_run.proofs.soak.soak_transactions.Goals as goal

pub loop-preserved : goal.loop-preserved
loop-preserved c =
    let count = c.args.count in
    let next = next_number c.loop.number in
    let bit : c.next_number-number.result / 2 ^ 63 ≤ 1 = omega (arith, c.next_number-number.ensures) in
    record {
      made =
          ap (λ (number : ℕ). map transaction_seen c.push.new.self.items ++ transactions_from (count - (c.loop.counter + 1)) number (c.loop.start + (1 + number / 2 ^ 63))) c.next_number-number.ensures
          ∙ ap (λ (txs : List Tx). map transaction_seen txs ++ transactions_from (count - (c.loop.counter + 1)) next (c.loop.start + (1 + next / 2 ^ 63))) c.in_ok-push.ensures.items
          ∙ one_made c.loop.txs.items c.in_ok-soak_transaction.field-0 count c.loop.counter c.loop.number c.loop.start (soak_transactions count) (omega (arith, c.loop-test.true)) c.in_ok-soak_transaction.ensures c.loop.invariant.made;
      early = omega (arith, bit, c.loop.invariant.early);
    }
