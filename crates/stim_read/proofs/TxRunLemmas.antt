-- Counts of transactions and of rows, and what a stimulus of transactions gives.
use Rattle.std.proofs.Common.{◌≡◌, ℕ, ◌+◌, ◌≤◌, max, min, List, length, map, drop, ap, arith}
use Rattle.std.specs.List.{fold, sum_by}
use Rattle.std.proofs.lemmas.List.{drop_all}
use Rattle.stim_read.specs.TxText.{Starts, tx_entry_seen}
use Rattle.stim_read.specs.TxEvents.{Event}
use Rattle.stim_read.specs.TxRun.{Transaction, end_row}
use Rattle.stim_read.specs.declared.tx_text.TxEntry.{TxEntry}

-- the greatest end of these transactions, and this number
abbrev pub rows_after : List Event → ℕ → List Transaction → ℕ
rows_after events rows transactions = fold (λ n t. max n (end_row events t)) rows transactions

pub count_all : (m count : ℕ) (xs : List TxEntry) (i : ℕ) → length xs ≤ i → count ≤ m → min (count + sum_by (λ (e : Starts). e.repeat.times) (map tx_entry_seen (drop i xs))) m ≡ count
count_all m count xs i past small =
    let none : sum_by (λ (e : Starts). e.repeat.times) (map tx_entry_seen (drop i xs)) ≡ 0 = ap (λ ys. sum_by (λ (e : Starts). e.repeat.times) (map tx_entry_seen ys)) (drop_all i xs past) in
    omega (arith, none)
