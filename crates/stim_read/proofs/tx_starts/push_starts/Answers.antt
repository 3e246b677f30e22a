use Rattle.std.proofs.Common.{◌≡◌, ◌+◌, ◌-◌, ◌*◌, ◌++◌, ◌<◌, ◌≤◌, [], ◌∷◌, None, length, map, sym, ap, ◌∙◌, arith}
use Rattle.std.specs.List.{range_with_len}
use Rattle.std.proofs.lemmas.List.{append-nil, length_push}
use Rattle.hw_bits.specs.Values.{values_of, widths_of}
use Rattle.stim_read.specs.TxText.{tx_entry_seen}
use Rattle.fil_ast.specs.declared.tx.Tx.{Tx}
use Rattle.stim_read.specs.TxRun.{transaction_seen}
use Rattle.stim_read.specs.inside.TxWalk.{rows_from, starts_fault, last_after, started, start_fault}
use Rattle.stim_read.proofs.FaultLemmas.{passes}
use Rattle.stim_read.proofs.TxStartLemmas.{rows_here, rows_end, rows_start, told_on, told_here, last_on, pushed_on, started_is}
use Rattle.stim_read.proofs.tx_starts.push_starts.Goals as goal

pub loop-k-init : goal.loop-k-init
loop-k-init c =
    let e = tx_entry_seen c.args.entry.now in
    record {
      told = ap (starts_fault c.args.before (length c.args.txs.now.items) c.args.delay) (rows_start e);
      last = ap (last_after c.args.before) (rows_start e);
      pushed = ap (λ rows. map transaction_seen c.args.txs.now.items ++ map (started c.args.event (values_of c.args.values.now) (widths_of c.args.values.now)) rows) (rows_start e);
    }

pub returns-in_err-check_order-clause-told : goal.returns-in_err-check_order-clause-told
returns-in_err-check_order-clause-told c =
    let end = c.in_err-check_order.field-0.0 in
    let e = tx_entry_seen c.args.entry.now in
    let below : c.loop-k.k < e.repeat.times = omega arith in
    let counted : c.len.result ≡ length c.loop-k.txs.items = omega (arith, c.len.ensures, c.loop-k.txs.ok.0) in
    passes c.from_residual.result end _ c.from_residual.ensures.1
    (told_here c.loop-k.last (length c.loop-k.txs.items) c.len.result c.args.delay (e.start + c.loop-k.k * e.repeat.every) _ _ _ end (rows_here e c.loop-k.k below) counted c.in_err-check_order.ensures c.loop-k.invariant.told)

pub loop-k-preserved : goal.loop-k-preserved
loop-k-preserved c =
    let e = tx_entry_seen c.args.entry.now in
    let k = c.loop-k.k in
    let row = e.start + k * e.repeat.every in
    let done = c.loop-k.txs.items in
    let tx : Tx = record { event = c.args.event; start = row; values = c.in_ok-values.values } in
    let f = started c.args.event (values_of c.args.values.now) (widths_of c.args.values.now) in
    let left = rows_from e (range_with_len (k + 1) (e.repeat.times - (k + 1))) in
    let below : k < e.repeat.times = omega arith in
    let cut = rows_here e k below in
    let grown : c.push.new.self.items ≡ done ++ tx ∷ [] = c.in_ok-push.ensures.items in
    let counted : c.len.result ≡ length done = omega (arith, c.len.ensures, c.loop-k.txs.ok.0) in
    let more : length c.push.new.self.items ≡ length done + 1 = ap length grown ∙ length_push done tx in
    let kept : start_fault c.loop-k.last (length done) c.args.delay row ≡ None = ap (λ n. start_fault c.loop-k.last n c.args.delay row) (sym counted) ∙ c.in_ok-check_order.ensures in
    let items : c.in_ok-values.values.items ≡ c.args.values.now = c.in_ok-values.ensures.items in
    let seen : transaction_seen tx ≡ f row = started_is c.args.event row (values_of c.in_ok-values.values.items) (widths_of c.in_ok-values.values.items) (values_of c.args.values.now) (widths_of c.args.values.now) (ap values_of items) (ap widths_of items) in
    record {
      told = told_on c.loop-k.last (length done) (length c.push.new.self.items) c.args.delay row (rows_from e (range_with_len k (e.repeat.times - k))) left _ cut kept more c.loop-k.invariant.told;
      last = last_on c.loop-k.last row (rows_from e (range_with_len k (e.repeat.times - k))) left _ cut c.loop-k.invariant.last;
      pushed = ap (λ ys. map transaction_seen ys ++ map f left) grown ∙ pushed_on f done tx row (rows_from e (range_with_len k (e.repeat.times - k))) left _ cut seen c.loop-k.invariant.pushed;
    }

pub returns-clause-told : goal.returns-clause-told
returns-clause-told c =
    let e = tx_entry_seen c.args.entry.now in
    let past : e.repeat.times ≤ c.loop-k.k = omega arith in
    sym c.loop-k.invariant.told ∙ ap (starts_fault c.loop-k.last (length c.loop-k.txs.items) c.args.delay) (rows_end e c.loop-k.k past)

pub returns-clause-last : goal.returns-clause-last
returns-clause-last c =
    let e = tx_entry_seen c.args.entry.now in
    let past : e.repeat.times ≤ c.loop-k.k = omega arith in
    sym (ap (last_after c.loop-k.last) (rows_end e c.loop-k.k past)) ∙ c.loop-k.invariant.last

pub returns-clause-pushed : goal.returns-clause-pushed
returns-clause-pushed c =
    let e = tx_entry_seen c.args.entry.now in
    let past : e.repeat.times ≤ c.loop-k.k = omega arith in
    let f = started c.args.event (values_of c.args.values.now) (widths_of c.args.values.now) in
    sym (ap (λ rows. map transaction_seen c.loop-k.txs.items ++ map f rows) (rows_end e c.loop-k.k past) ∙ append-nil (map transaction_seen c.loop-k.txs.items)) ∙ c.loop-k.invariant.pushed
