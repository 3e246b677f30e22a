-- What it is to carry transactions at the ports of one instance, and the law of what is timed, row by row. Filament, PLDI 2023.
use Rattle.std.specs.Prelude.{◌≡◌, ◌⊎◌, ◌↔◌, ℕ, ◌+◌, ◌<◌, ◌≤◌, Bool, true, List, slice_get, if◌then◌else◌, Option, Some, AllPairs, Contains}
use Rattle.hw_prims.specs.Row.{Text, Row, Trace}

-- for how many rows a transaction holds an event: for as many as the delay says, or, of a register, for as many as the transaction says
pub data Delay : Type 0 where
  Fixed : ℕ → Delay
  Chosen : Delay

-- an event of an instance, with its interface port, if it has one
pub record TimedEvent : Type 0 where
  pub delay : Delay
  pub go : Option Text

-- a data port: it is valid in the rows [from, to) after a start of its event, or, where it stays, until so many rows after `to` as the event is held
pub record TimedPort : Type 0 where
  pub name : Text
  pub event : ℕ
  pub from : ℕ
  pub to : ℕ
  pub stays : Bool

pub record TimedSignature : Type 0 where
  pub events : List TimedEvent
  pub ins : List TimedPort
  pub outs : List TimedPort

-- the value of each port, by its local name
abbrev pub Values : Type 0
Values = Text → ℕ

-- what an instance promises: when its ports are valid, and the values of its outputs on values of its inputs
pub record Behaviour : Type 0 where
  pub sig : TimedSignature
  pub flow : Values → Values

-- a transaction: it starts the event with this number in this row, holds it for so many rows, and gives these values to the event's inputs
pub record Transaction : Type 0 where
  pub event : ℕ
  pub start : ℕ
  pub hold : ℕ
  pub values : Values

abbrev pub end_of : TimedPort → ℕ → ℕ
end_of p hold = p.to + (if p.stays then hold else 0)

-- the port is valid for the transaction in row r
abbrev pub Covers : TimedPort → Transaction → ℕ → Type 0
Covers p tx r = (p.event ≡ tx.event) × (tx.start + p.from ≤ r) × (r < tx.start + end_of p tx.hold)

abbrev pub HasDelay : Delay → ℕ → Type 0
HasDelay (Fixed rows) hold = hold ≡ rows
HasDelay Chosen hold = 1 ≤ hold

-- of one event, one is held no longer where the other starts
abbrev pub NeverOverlap : Transaction → Transaction → Type 0
NeverOverlap a b = a.event ≡ b.event → (a.start + a.hold ≤ b.start) ⊎ (b.start + b.hold ≤ a.start)

-- a legal list, in whatever order: each transaction holds an event as long as it must, and no two hold one event in one row
pub record AreLegalTransactions (sig : TimedSignature) (txs : List Transaction) : Type 0 where
  pub held : (tx : Transaction) → Contains txs tx → (e : TimedEvent) × (slice_get sig.events tx.event ≡ Some e) × HasDelay e.delay tx.hold
  pub apart : AllPairs NeverOverlap txs

-- in row r each input of these that is valid for the transaction has its value, where `at` gives the full names of ports
abbrev pub HasInputs : List TimedPort → (Text → Text) → Row → Transaction → ℕ → Type 0
HasInputs ins at row tx r = (p : TimedPort) → Contains ins p → Covers p tx r → row (at p.name) ≡ tx.values p.name

-- and each output the value that the flow gives it
abbrev pub HasOutputs : Behaviour → (Text → Text) → Row → Transaction → ℕ → Type 0
HasOutputs b at row tx r = (p : TimedPort) → Contains b.sig.outs p → Covers p tx r → row (at p.name) ≡ b.flow tx.values p.name

-- in row r each interface port is 1 exactly if a transaction starts its event
abbrev pub CarriesStarts : TimedSignature → (Text → Text) → Row → List Transaction → ℕ → Type 0
CarriesStarts sig at row txs r =
    (n : ℕ) (e : TimedEvent) (go : Text) → slice_get sig.events n ≡ Some e → e.go ≡ Some go →
    (row (at go) ≡ 1) ↔ ((tx : Transaction) × Contains txs tx × (tx.event ≡ n) × (tx.start ≡ r))

-- row r carries the transactions at the inputs: each value that is valid, and each start; all other values are free
pub record CarriesInputs (sig : TimedSignature) (at : Text → Text) (row : Row) (txs : List Transaction) (r : ℕ) : Type 0 where
  pub values : (tx : Transaction) → Contains txs tx → HasInputs sig.ins at row tx r
  pub starts : CarriesStarts sig at row txs r

abbrev pub CarriesOutputs : Behaviour → (Text → Text) → Row → List Transaction → ℕ → Type 0
CarriesOutputs b at row txs r = (tx : Transaction) → Contains txs tx → HasOutputs b at row tx r

-- the law of what is timed: where the rows before row r carry a legal list at the inputs, the starts up to row r are carried, and in row r a
-- transaction's inputs have its values, its outputs have those of the flow
abbrev pub IsTimed : Behaviour → (Text → Text) → ℕ → Trace → Type 0
IsTimed b at height trace =
    (txs : List Transaction) → AreLegalTransactions b.sig txs → (r : ℕ) → r < height →
    ((s : ℕ) → s < r → CarriesInputs b.sig at (trace s) txs s) → CarriesStarts b.sig at (trace r) txs r →
    (tx : Transaction) → Contains txs tx → HasInputs b.sig.ins at (trace r) tx r → HasOutputs b at (trace r) tx r

-- the same, output by output, where in row r only those inputs matter on which the output depends within a row
abbrev pub IsTimedThrough : Behaviour → (Text → Text → Bool) → (Text → Text) → ℕ → Trace → Type 0
IsTimedThrough b through at height trace =
    (txs : List Transaction) → AreLegalTransactions b.sig txs → (r : ℕ) → r < height →
    ((s : ℕ) → s < r → CarriesInputs b.sig at (trace s) txs s) →
    (tx : Transaction) → Contains txs tx → (o : TimedPort) → Contains b.sig.outs o → Covers o tx r →
    ((p : TimedPort) → Contains b.sig.ins p → through p.name o.name ≡ true → Covers p tx r → trace r (at p.name) ≡ tx.values p.name) →
    trace r (at o.name) ≡ b.flow tx.values o.name
