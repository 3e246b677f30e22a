-- A stimulus of transactions, as its JSON value says it. This project's.
use Rattle.std.specs.Prelude.{ℕ, ◌+◌, ◌-◌, ◌*◌, ◌^◌, ◌&&◌, nat_lt, Bool, List, [], ◌∷◌, codes, map, Option, Some, None, option_map}
use Rattle.serde_json.specs.Data.{Data}
use Rattle.serde_json.specs.Find.{get, as_str}
use Rattle.hw_names.specs.Name.{Text}
use Rattle.stim_read.specs.Parts.{◌>>=◌, provided, items_in, is_object_of, number_at, each}
use Rattle.stim_read.specs.Amounts.{amount_in, version_in}
use Rattle.stim_read.specs.CycleText.{givens_at}
use Rattle.stim_read.specs.declared.amounts.Version.{Version}
use Rattle.stim_read.specs.declared.amounts.Version.TheVariants.{One, Two}
use Rattle.stim_read.specs.declared.given.Given.{Given}
use Rattle.stim_read.specs.declared.tx_text.EventName.{EventName}
use Rattle.stim_read.specs.declared.tx_text.EventName.TheVariants.{First, Named}
use Rattle.stim_read.specs.declared.tx_text.Repeat.{Repeat}
use Rattle.stim_read.specs.declared.tx_text.TxEntry.{TxEntry}
use Rattle.stim_read.specs.declared.tx_text.TxText.{TxText}

-- an entry of `transactions`: starts of an event with the same inputs
pub record Starts : Type 0 where
  pub event : EventName
  pub start : ℕ
  pub given : List Given
  pub repeat : Repeat

pub record Transactions : Type 0 where
  pub entries : List Starts
  pub idle : ℕ

abbrev pub once : Repeat
once = record { times = 1; every = 0 }

abbrev pub repeat_keys : List Text
repeat_keys = codes "times" ∷ codes "every" ∷ []

-- `repeat`: neither number is 0
abbrev pub repeat_in : Data → Option Repeat
repeat_in value = do
  times ← provided (is_object_of repeat_keys value) (number_at (codes "times") value)
  every ← number_at (codes "every") value
  provided (nat_lt 0 times && nat_lt 0 every) (Some (record { times = times; every = every }))

-- the key `repeat` may be missing
abbrev pub repeat_at : Option Data → Option Repeat
repeat_at None = Some once
repeat_at (Some value) = repeat_in value

abbrev pub event_in : Data → Option EventName
event_in value = option_map Named (as_str value)

-- the key `event` may be missing, and means the first event then
abbrev pub event_at : Option Data → Option EventName
event_at None = Some First
event_at (Some value) = event_in value

abbrev pub tx_keys : Version → List Text
tx_keys One = codes "start" ∷ codes "inputs" ∷ []
tx_keys Two = codes "start" ∷ codes "inputs" ∷ codes "repeat" ∷ codes "event" ∷ []

-- the last start is below 2 ^ 64
abbrev pub starts_fit : ℕ → Repeat → Bool
starts_fit start repeat = nat_lt (start + (repeat.times - 1) * repeat.every) (2 ^ 64)

-- an entry of `transactions`
abbrev pub tx_entry_in : Version → Data → Option Starts
tx_entry_in version value = do
  start ← provided (is_object_of (tx_keys version) value) (number_at (codes "start") value)
  given ← givens_at version (codes "inputs") value
  repeat ← repeat_at (get (codes "repeat") value)
  event ← event_at (get (codes "event") value)
  provided (starts_fit start repeat) (Some (record { event = event; start = start; given = given; repeat = repeat }))

abbrev pub entries_in : Version → Data → Option (List Starts)
entries_in version value = get (codes "transactions") value >>= items_in >>= each (tx_entry_in version)

-- the key `idle` may be missing
abbrev pub idle_at : Version → Option Data → Option ℕ
idle_at version None = Some 0
idle_at version (Some value) = amount_in version value

abbrev pub transactions_keys : List Text
transactions_keys = codes "version" ∷ codes "transactions" ∷ codes "idle" ∷ []

-- a stimulus of transactions
abbrev pub transactions_in : Data → Option Transactions
transactions_in value = do
  version ← provided (is_object_of transactions_keys value) (version_in value)
  entries ← entries_in version value
  idle ← idle_at version (get (codes "idle") value)
  Some (record { entries = entries; idle = idle })

-- ---- the same as the program holds it

abbrev pub tx_entry_seen : TxEntry → Starts
tx_entry_seen e = record { event = e.event; start = e.start; given = e.given.items; repeat = e.repeat }

abbrev pub transactions_seen : TxText → Transactions
transactions_seen t = record { entries = map tx_entry_seen t.entries.items; idle = t.idle }
