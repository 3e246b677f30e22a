-- What a stimulus of transactions gives to a component, and why it gives nothing. This project's.
use Rattle.std.specs.Prelude.{◌≡◌, ℕ, ◌+◌, ◌-◌, ◌^◌, ◌<◌, ◌≤◌, min, max, List, map, true, false, Option, Some, None, slice_get}
use Rattle.std.specs.List.{fold, sum_by}
use Rattle.hw_bits.specs.Values.{values_of, widths_of}
use Rattle.serde_json.specs.Data.{Data}
use Rattle.fil_ast.specs.declared.tx.Tx.{Tx}
use Rattle.fil_ast.specs.declared.tx.TxList.{TxList}
use Rattle.stim_read.specs.Rules.{refused, EntryKeepsRules, EntriesKeepRules, FirstBroken}
use Rattle.stim_read.specs.CycleRun.{IsJson, IsNoJson}
use Rattle.stim_read.specs.TxText.{Starts, Transactions, transactions_in}
use Rattle.stim_read.specs.TxEvents.{Event, EventList}
use Rattle.stim_read.specs.TxRules.{Start, starts_in, event_number, event_by, value_or_0, inputs_of, start_rules}
use Rattle.hw_limits.specs.declared.limits.TheConstants.{MOST_TRANSACTIONS, MOST_CYCLES}
use Rattle.stim_read.specs.declared.stim_end.StimEnd.{StimEnd}
use Rattle.stim_read.specs.declared.stim_end.StimEnd.TheVariants.{Limit}

-- a start of the event with this number, with the values of its data inputs, in their order, and their widths
pub record Transaction : Type 0 where
  pub event : ℕ
  pub start : ℕ
  pub values : List ℕ
  pub widths : List ℕ

pub record TxRun : Type 0 where
  pub transactions : List Transaction
  pub idle : ℕ

abbrev pub transaction_of : EventList → Start → Transaction
transaction_of events s =
    record {
      event = event_number events.names s.event;
      start = s.start;
      values = map (value_or_0 s.given) (inputs_of (event_by events s.event)).names;
      widths = (inputs_of (event_by events s.event)).widths;
    }

abbrev pub tx_run_of : EventList → Transactions → TxRun
tx_run_of events t = record { transactions = map (transaction_of events) (starts_in t.entries); idle = t.idle }

-- ---- the limits

-- sums end at 2 ^ 64 - 1
abbrev pub saturated : ℕ → ℕ
saturated n = min n (2 ^ 64 - 1)

-- how many transactions there are
abbrev pub count_of : List Starts → ℕ
count_of entries = saturated (sum_by (λ (e : Starts). e.repeat.times) entries)

abbrev pub end_of : Option Event → ℕ
end_of None = 0
end_of (Some event) = event.end

-- the row in which a transaction ends: the last of its event's ports' intervals ends there
abbrev pub end_row : List Event → Transaction → ℕ
end_row events t = t.start + end_of (slice_get events t.event)

-- how many rows a run has
abbrev pub run_rows : List Event → List Transaction → ℕ
run_rows events transactions = saturated (fold (λ n t. max n (end_row events t)) 0 transactions)

-- ---- a stimulus

-- the start with this number, counted from 0, keeps the rules
abbrev pub StartKeepsRules : EventList → Transactions → ℕ → Type 0
StartKeepsRules events t k = EntryKeepsRules (start_rules events) (starts_in t.entries) k

abbrev pub StartsKeepRules : EventList → Transactions → Type 0
StartsKeepRules events t = EntriesKeepRules (start_rules events) (starts_in t.entries)

-- how many rows a run of a stimulus's transactions has
abbrev pub rows_of_run : EventList → Transactions → ℕ
rows_of_run events t = run_rows events.events (tx_run_of events t).transactions

-- a stimulus keeps the limits and the rules
pub record KeepsTxRules (events : EventList) (t : Transactions) : Type 0 where
  pub count : count_of t.entries ≤ MOST_TRANSACTIONS
  pub starts : StartsKeepRules events t
  pub rows : rows_of_run events t ≤ MOST_CYCLES

-- this end tells the first limit or rule that a stimulus does not keep: the number of transactions, S3 to S6 start by start, and the number of rows
pub data BreaksFirstTx (events : EventList) (t : Transactions) : StimEnd → Type 0 where
  Count : MOST_TRANSACTIONS < count_of t.entries → BreaksFirstTx events t (Limit (count_of t.entries) MOST_TRANSACTIONS false)
  AtStart :
      (end : StimEnd) → count_of t.entries ≤ MOST_TRANSACTIONS → FirstBroken (start_rules events) (starts_in t.entries) 0 end →
      BreaksFirstTx events t end
  Rows :
      count_of t.entries ≤ MOST_TRANSACTIONS → StartsKeepRules events t → MOST_CYCLES < rows_of_run events t →
      BreaksFirstTx events t (Limit (rows_of_run events t) MOST_CYCLES true)

-- ---- the same as the program holds it

abbrev pub transaction_seen : Tx → Transaction
transaction_seen tx = record { event = tx.event; start = tx.start; values = values_of tx.values.items; widths = widths_of tx.values.items }

abbrev pub tx_run_seen : TxList → TxRun
tx_run_seen list = record { transactions = map transaction_seen list.txs.items; idle = list.idle }

-- ---- texts

-- the bytes say these transactions
pub record SayTransactions (bytes : List ℕ) (t : Transactions) : Type 0 where
  pub value : Data
  pub json : IsJson bytes value
  pub says : transactions_in value ≡ Some t

-- the bytes say a stimulus that keeps the rules and the limits, and it gives these transactions
pub record GiveTransactions (bytes : List ℕ) (events : EventList) (run : TxRun) : Type 0 where
  pub stimulus : Transactions
  pub said : SayTransactions bytes stimulus
  pub kept : KeepsTxRules events stimulus
  pub gives : run ≡ tx_run_of events stimulus

-- the cause for which the bytes say no transactions
pub data IsNoTransactions (bytes : List ℕ) : StimEnd → Type 0 where
  NoJson : (end : StimEnd) → IsNoJson bytes end → IsNoTransactions bytes end
  NotTransactions : (value : Data) → IsJson bytes value → transactions_in value ≡ None → IsNoTransactions bytes (refused 2 0)

-- the cause for which the bytes give no transactions
pub data IsTxCause (bytes : List ℕ) (events : EventList) : StimEnd → Type 0 where
  NoTransactions : (end : StimEnd) → IsNoTransactions bytes end → IsTxCause bytes events end
  BrokenRule : (t : Transactions) (end : StimEnd) → SayTransactions bytes t → BreaksFirstTx events t end → IsTxCause bytes events end
