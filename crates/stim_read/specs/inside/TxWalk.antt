-- The walk over a stimulus of transactions to the first limit or rule that it does not keep: start by start, and by entry,
-- all starts of an entry being judged at once, since they have the same event and the same values. This project's.
use Rattle.std.specs.Prelude.{◌≡◌, ℕ, ◌+◌, ◌*◌, ◌≤◌, ◌<◌, ◌-◌, ◌^◌, ◌==◌, nat_le, true, false, if◌then◌else◌, Option, Some, None}
use Rattle.std.specs.Prelude.{List, [], ◌∷◌, All, length, map, slice_index_or}
use Rattle.std.specs.List.{list_all, range_with_len}
use Rattle.hw_bits.specs.declared.bits.TheConstants.{MAX_WIDTH}
use Rattle.hw_names.specs.Name.{Text}
use Rattle.stim_read.specs.Rules.{refused}
use Rattle.stim_read.specs.CycleRules.{Targets, has_known_name}
use Rattle.stim_read.specs.TxText.{Starts, Transactions}
use Rattle.stim_read.specs.TxEvents.{Event, EventList}
use Rattle.stim_read.specs.TxRules.{Start, starts_in, event_number, event_by, is_given, value_or_0, all_fit}
use Rattle.stim_read.specs.TxRun.{Transaction, tx_run_of, count_of, run_rows}
use Rattle.stim_read.specs.inside.Walk.{first_fault, unless}
use Rattle.stim_read.specs.declared.given.Given.{Given}
use Rattle.hw_limits.specs.declared.limits.TheConstants.{MOST_TRANSACTIONS, MOST_CYCLES}
use Rattle.stim_read.specs.declared.stim_end.StimEnd.{StimEnd}
use Rattle.stim_read.specs.declared.stim_end.StimEnd.TheVariants.{Refused, Limit}

-- ---- start by start

-- S3, S6 and S4: each name is an input, each input has a value, and the values fit the inputs' widths
abbrev pub values_fault : Targets → ℕ → List Given → Option StimEnd
values_fault inputs number given =
    first_fault (unless (list_all (has_known_name inputs.names) given) (refused 3 number)) (
    first_fault (unless (list_all (is_given given) inputs.names) (refused 6 number))
    (unless (all_fit inputs.widths (map (value_or_0 given) inputs.names)) (refused 4 number)))

-- the last start of the event with this number among the earlier ones, of which the latest stands first
abbrev pub latest_start : List Text → ℕ → List Start → Option ℕ
latest_start names event [] = None
latest_start names event (s ∷ earlier) = if event_number names s.event == event then Some s.start else latest_start names event earlier

-- S5: a start is at least its event's delay after the one before
abbrev pub start_fault : Option ℕ → ℕ → ℕ → ℕ → Option StimEnd
start_fault None number delay start = None
start_fault (Some before) number delay start = unless (nat_le (before + delay) start) (Refused 5 number before start delay)

-- S3, S6, S4 and S5 at a start, whose number is counted from 0
abbrev pub event_fault : Option Event → Option ℕ → ℕ → Start → Option StimEnd
event_fault None before number s = Some (refused 3 number)
event_fault (Some event) before number s = first_fault (values_fault event.inputs number s.given) (start_fault before number event.delay s.start)

abbrev pub tx_fault : EventList → List Start → ℕ → Start → Option StimEnd
tx_fault events earlier number s = event_fault (event_by events s.event) (latest_start events.names (event_number events.names s.event) earlier) number s

abbrev pub txs_fault : EventList → List Start → ℕ → List Start → Option StimEnd
txs_fault events earlier number [] = None
txs_fault events earlier number (s ∷ later) = first_fault (tx_fault events earlier number s) (txs_fault events (s ∷ earlier) (number + 1) later)

abbrev pub count_fault : ℕ → Option StimEnd
count_fault count = unless (nat_le count MOST_TRANSACTIONS) (Limit count MOST_TRANSACTIONS false)

abbrev pub rows_fault : ℕ → Option StimEnd
rows_fault rows = unless (nat_le rows MOST_CYCLES) (Limit rows MOST_CYCLES true)

-- the first limit or rule that a stimulus does not keep: the number of transactions, S3 to S6, and the number of rows
abbrev pub transactions_fault : EventList → Transactions → Option StimEnd
transactions_fault events t =
    first_fault (count_fault (count_of t.entries)) (
    first_fault (txs_fault events [] 0 (starts_in t.entries)) (
    rows_fault (run_rows events.events (tx_run_of events t).transactions)))

-- ---- what is judged

-- an entry stands for at least one start, and its last start is below 2 ^ 64
pub record IsEntry (e : Starts) : Type 0 where
  pub some : 0 < e.repeat.times
  pub fits : e.start + (e.repeat.times - 1) * e.repeat.every < 2 ^ 64

-- names and widths go together, and each width is 1 to 128 bits
pub record HasWidths (e : Event) : Type 0 where
  pub paired : length e.inputs.names ≡ length e.inputs.widths
  pub widths : All (λ w. (1 ≤ w) × (w ≤ MAX_WIDTH)) e.inputs.widths

-- there are at most 256 events, and what a stimulus has to know of each
pub record AreUsable (events : EventList) : Type 0 where
  pub paired : length events.names ≡ length events.events
  pub few : length events.events ≤ 256
  pub widths : All HasWidths events.events

-- ---- by entry

-- the rows in which an entry's event starts
abbrev pub rows_from : Starts → List ℕ → List ℕ
rows_from e numbers = map (λ k. e.start + k * e.repeat.every) numbers

abbrev pub start_rows : Starts → List ℕ
start_rows e = rows_from e (range_with_len 0 e.repeat.times)

-- S5 at starts of an event one after another
abbrev pub starts_fault : Option ℕ → ℕ → ℕ → List ℕ → Option StimEnd
starts_fault before number delay [] = None
starts_fault before number delay (row ∷ rows) = first_fault (start_fault before number delay row) (starts_fault (Some row) (number + 1) delay rows)

-- the last start after these
abbrev pub last_after : Option ℕ → List ℕ → Option ℕ
last_after before [] = before
last_after before (row ∷ rows) = last_after (Some row) rows

-- the last start of the event with this name, where each event's last start is in the list
abbrev pub last_by : EventList → List (Option ℕ) → Starts → Option ℕ
last_by events last e = slice_index_or last (event_number events.names e.event) None

abbrev pub entry_fault_at : Option Event → Option ℕ → ℕ → Starts → Option StimEnd
entry_fault_at None before number e = Some (refused 3 number)
entry_fault_at (Some event) before number e = first_fault (values_fault event.inputs number e.given) (starts_fault before number event.delay (start_rows e))

-- S3, S6, S4 and S5 in an entry, whose first start has this number
abbrev pub entry_fault : EventList → List (Option ℕ) → ℕ → Starts → Option StimEnd
entry_fault events last number e = entry_fault_at (event_by events e.event) (last_by events last e) number e

-- a start of the event with this number in this row, with these values
abbrev pub started : ℕ → List ℕ → List ℕ → ℕ → Transaction
started event values widths row = record { event = event; start = row; values = values; widths = widths }
