-- Intervals of rows after the starts of an event, and which of the transactions before a row are over. This project's.
use Rattle.std.specs.Prelude.{◌≡◌, ℕ, ◌+◌, ◌<◌, ◌≤◌, ◌==◌, ◌&&◌, nat_le, nat_lt, Bool, List, length, map, find, slice_get, slice_index_or, Option, Some}
use Rattle.std.specs.Prelude.{AllPairs}
use Rattle.std.specs.List.{AllWithin}
use Rattle.fil_ast.specs.Signature.{SigPort}
use Rattle.fil_ast.specs.declared.tx.Tx.{Tx}
use Rattle.stim_read.specs.TxRun.{Transaction, transaction_seen}
use Rattle.filc_report.specs.declared.intervals.Interval.{Interval}

-- the interval of a data port
abbrev pub port_interval : SigPort → Interval
port_interval p = record { event = p.from.event; from = p.from.plus; to = p.to.plus }

-- the row lies in the interval, in this transaction
abbrev pub lies_in : Interval → ℕ → Transaction → Bool
lies_in i row t = i.event == t.event && (nat_le (t.start + i.from) row && nat_lt row (t.start + i.to))

-- the transaction of these in whose interval the row lies
abbrev pub holding : Interval → ℕ → List Tx → Option Transaction
holding i row txs = find (lies_in i row) (map transaction_seen txs)

-- the interval of a transaction ends before the row; a transaction of another event has none
abbrev pub IsOver : Interval → ℕ → Tx → Type 0
IsOver i row tx = i.event ≡ tx.event → tx.start + i.to ≤ row

-- the transactions before this one are over
pub record ArePassed (i : Interval) (txs : List Tx) (next row : ℕ) : Type 0 where
  pub within : next ≤ length txs
  pub over : AllWithin (IsOver i row) txs 0 next

-- the same for each of these intervals
abbrev pub ArePassedBy : List Interval → List Tx → List ℕ → ℕ → Type 0
ArePassedBy intervals txs nexts row =
    (k : ℕ) (i : Interval) → slice_get intervals k ≡ Some i → ArePassed i txs (slice_index_or nexts k 0) row

-- this is the first transaction that is not over
pub record IsFirstLeft (i : Interval) (txs : List Tx) (next row : ℕ) : Type 0 where
  pub passed : ArePassed i txs next row
  pub left : (tx : Tx) → slice_get txs next ≡ Some tx → (i.event ≡ tx.event) × (row < tx.start + i.to)

-- the starts of each event come in their order
abbrev pub RiseByEvent : List Tx → Type 0
RiseByEvent txs = AllPairs (λ (a b : Tx). a.event ≡ b.event → a.start ≤ b.start) txs
