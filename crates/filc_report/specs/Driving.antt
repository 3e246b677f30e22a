-- What drives the inputs of a netlist, row by row, and how the inputs stand before a row. This project's.
use Rattle.std.specs.Prelude.{◌≡◌, ℕ, ◌<◌, ◌≤◌, ◌%◌, ◌^◌, List, [], length, map, replicate, take, slice_get, slice_index_or, Option, None, Some}
use Rattle.std.specs.Prelude.{All}
use Rattle.hw_bits.specs.Values.{values_of, widths_of}
use Rattle.hw_bits.specs.declared.bits.Bits.{Bits}
use Rattle.hw_names.specs.Name.{Text, AreDistinct}
use Rattle.hw_prims.specs.Row.{Trace}
use Rattle.hw_prims.specs.Table.{Pin, pin_names, pin_widths}
use Rattle.net_core.specs.Netlist.{Netlist}
use Rattle.net_core.specs.declared.stimulus.InputSet.{InputSet}
use Rattle.fil_ast.specs.Signature.{SigEvent, SigPort, Signature}
use Rattle.fil_ast.specs.declared.tx.Tx.{Tx}
use Rattle.fil_ast.specs.declared.tx.TxList.{TxList}
use Rattle.fil_sig.specs.Seen.{seen}
use Rattle.stim_read.specs.Fits.{AreLegal, FitsSignature}
use Rattle.stim_read.specs.TxEvents.{HasFixedDelay, ports_after}
use Rattle.stim_read.specs.TxRun.{Transaction, transaction_seen, tx_run_seen}
use Rattle.filc_load.specs.Given.{driven, with_sets, AreSetsFor}
use Rattle.filc_report.specs.Intervals.{port_interval, holding, ArePassed}
use Rattle.fil_driven.specs.TxDrive.{HasPortsOf, driven_by, event_with}
use Rattle.filc_report.specs.declared.drive.Drive.{Drive}
use Rattle.filc_report.specs.declared.drive.Drive.TheVariants.{Cycles, Txs}
use Rattle.filc_report.specs.declared.inputs.Inputs.{Inputs}
use Rattle.filc_report.specs.declared.tx_inputs.Gives.{Gives}
use Rattle.filc_report.specs.declared.tx_inputs.Gives.TheVariants.{Start, Value}
use Rattle.filc_report.specs.declared.tx_inputs.TxInput.{TxInput}

-- the inputs of the netlist in each row
abbrev pub trace_of : Netlist → Drive → Trace
trace_of n (Cycles list) = driven n list.now.sets.items
trace_of n (Txs list sig) = driven_by (seen sig.now) (tx_run_seen list.now)

-- the transactions of a drive
abbrev pub txs_of : Drive → List Tx
txs_of (Cycles list) = []
txs_of (Txs list sig) = list.now.txs.items

-- ---- what fits a netlist

-- a legal list of transactions of the signature that the netlist has
pub record AreTransactionsFor (n : Netlist) (sig : Signature) (list : TxList) : Type 0 where
  pub ports : HasPortsOf sig n
  pub few : length sig.events ≤ 256
  pub fixed : All HasFixedDelay sig.events
  pub fit : All (FitsSignature sig) list.txs.items
  pub legal : AreLegal sig (map transaction_seen list.txs.items)

-- the drive is for the netlist's inputs
abbrev pub FitsDrive : Netlist → Drive → Type 0
FitsDrive n (Cycles list) = AreSetsFor (pin_widths n.ins) list.now.sets.items
FitsDrive n (Txs list sig) = AreTransactionsFor n (seen sig.now) list.now

-- ---- sets

-- the first sets were made, up to those of later rows than the last
pub record AreMade (sets : List InputSet) (inputs : List Bits) (taken row : ℕ) (count : ℕ) : Type 0 where
  pub fits : taken ≤ length sets
  pub due : (i : ℕ) (d : InputSet) → i < taken → (slice_index_or sets i d).from < row
  pub values : values_of inputs ≡ with_sets (take taken sets) (replicate count 0)

-- ---- transactions

-- what an input of this width gets where its interval has this transaction, or none
abbrev pub value_given : Gives → Option Transaction → (idle width : ℕ) → ℕ
value_given Start None idle width = 0
value_given Start (Some t) idle width = 1
value_given (Value place) None idle width = idle % 2 ^ width
value_given (Value place) (Some t) idle width = slice_index_or t.values place 0

-- the same in a row
abbrev pub value_in : TxInput → TxList → ℕ → ℕ → ℕ
value_in i list row width = value_given i.gives (holding i.interval row list.txs.items) list.idle width

-- a transaction has the value that an input of this width gets from it
abbrev pub GivesValue : Gives → ℕ → Tx → Type 0
GivesValue Start width tx = Unit {0}
GivesValue (Value place) width tx = slice_get (widths_of tx.values.items) place ≡ Some width

-- so does each transaction of the input's event
abbrev pub GiveValues : TxInput → ℕ → List Tx → Type 0
GiveValues i width txs = All (λ (tx : Tx). i.interval.event ≡ tx.event → GivesValue i.gives width tx) txs

-- an input of the netlist gets its values so
pub record DrivesPin (list : TxList) (inputs : Trace) (i : TxInput) (p : Pin) : Type 0 where
  pub values : (row : ℕ) → value_in i list row p.width ≡ inputs row p.name
  pub given : GiveValues i p.width list.txs.items

-- before a row: each input is driven so, and the transactions before its next one are over
pub record AreAt (n : Netlist) (inputs : Trace) (list : TxList) (ports : List TxInput) (nexts : List ℕ) (row : ℕ) : Type 0 where
  pub as_many : length ports ≡ length n.ins
  pub each : length nexts ≡ length ports
  pub drives : (k : ℕ) (i : TxInput) (p : Pin) → slice_get ports k ≡ Some i → slice_get n.ins k ≡ Some p → DrivesPin list inputs i p
  pub passed : (k : ℕ) (i : TxInput) → slice_get ports k ≡ Some i → ArePassed i.interval list.txs.items (slice_index_or nexts k 0) row

-- an interface port of these events
pub record IsInterface (events : List SigEvent) (name : Text) (i : TxInput) : Type 0 where
  pub event : ℕ
  pub is : event_with 0 events name ≡ Some event
  pub starts : i ≡ record { interval = record { event = event; from = 0; to = 1 }; gives = Start }

-- the data input with this number: its event's transactions have as many values before its own as their event has data inputs before it
pub record IsDataInput (ports : List SigPort) (k : ℕ) (i : TxInput) : Type 0 where
  pub port : SigPort
  pub at : slice_get ports k ≡ Some port
  pub is : i ≡ record { interval = port_interval port; gives = Value (length (ports_after port.from.event (take k ports))) }

-- ---- how inputs stand before a row

abbrev pub StandBefore : Netlist → Drive → Inputs → ℕ → Type 0
StandBefore n (Cycles list) inputs row = AreMade list.now.sets.items inputs.values.items inputs.taken row (length n.ins)
StandBefore n (Txs list sig) inputs row = AreAt n (driven_by (seen sig.now) (tx_run_seen list.now)) list.now inputs.ports.items inputs.nexts.items row

-- the inputs of the netlist, as the drive makes them before this row
pub record AreInputsAt (n : Netlist) (drive : Drive) (inputs : Inputs) (row : ℕ) : Type 0 where
  pub widths : pin_widths n.ins ≡ widths_of inputs.values.items
  pub distinct : AreDistinct (pin_names n.ins)
  pub stand : StandBefore n drive inputs row
