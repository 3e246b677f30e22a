-- Laws of netlists that keep what a design promises, as transactions drive them. Filament, PLDI 2023; the words are this project's.
use Rattle.std.specs.Prelude.{◌≡◌, ℕ, ◌+◌, ◌<◌, ◌≤◌, List, length, map, filter, take, slice_get, Some, All, Contains}
use Rattle.hw_bits.specs.Values.{widths_of}
use Rattle.hw_names.specs.Name.{Text}
use Rattle.hw_prims.specs.Row.{Trace}
use Rattle.hw_prims.specs.Timed.{TimedPort, Transaction, Covers, AreLegalTransactions}
use Rattle.net_core.specs.NetRun.{NetRun, net_circuit}
use Rattle.net_core.specs.Netlist.{Netlist}
use Rattle.fil_ast.specs.Behaviours.{HasOwnValues, component_behaviour, event_named, transaction_on}
use Rattle.fil_ast.specs.Holds as holds
use Rattle.fil_ast.specs.Rules.{FilRules}
use Rattle.fil_ast.specs.Signature.{Signature, component_signature}
use Rattle.fil_ast.specs.Transactions.{is_of_event}
use Rattle.fil_ast.specs.Tree.{DataPort, Component, Design}
use Rattle.fil_ast.specs.declared.tx.Tx.{Tx}
use Rattle.fil_ast.specs.declared.tx.TxList.{TxList}
use Rattle.fil_promise.specs.Refines.{Refines, CarriesList, GiveInputs}
use Rattle.fil_share.specs.Uses.{starts_of}
use Rattle.stim_read.specs.Fits.{AreLegal, FitsSignature}
use Rattle.stim_read.specs.TxEvents.{HasFixedDelay}
use Rattle.stim_read.specs.TxRun.{transaction_seen, tx_run_seen}
use Rattle.hw_limits.specs.declared.limits.TheConstants.{MOST_CYCLES}
use Rattle.fil_driven.specs.Shown.{outputs_line, meant_line}
use Rattle.fil_driven.specs.TxDrive.{HasPortsOf, driven_by}

-- it starts one of the component's events in time, with a value for each data input of the event, of that input's width
pub record IsTransactionOf (c : Component) (tx : Tx) : Type 0 where
  pub event : tx.event < length c.events
  pub start : tx.start ≤ MOST_CYCLES
  pub widths : widths_of tx.values.items ≡ map (λ (p : DataPort). p.width) (filter (is_of_event (event_named c tx.event)) c.ins)

-- a stimulus's transactions are the component's, and a legal list
pub record AreTransactionsOf (c : Component) (list : TxList) : Type 0 where
  pub each : All (IsTransactionOf c) list.txs.items
  pub legal : holds.AreLegalStarts c (starts_of c list.txs.items)

-- what fits a signature, as a simulation asks it
pub record FitTheSignature (sig : Signature) (list : TxList) : Type 0 where
  pub fixed : All HasFixedDelay sig.events
  pub each : All (FitsSignature sig) list.txs.items
  pub legal : AreLegal sig (map transaction_seen list.txs.items)

-- a component's transactions fit its signature
abbrev pub TransactionsFit : Type 0
TransactionsFit =
    (comps : Design) (number : ℕ) (c : Component) (list : TxList) → FilRules comps → slice_get comps number ≡ Some c → AreTransactionsOf c list →
    FitTheSignature (component_signature c) list

-- a netlist that keeps what a design promises has the ports of its top component
abbrev pub KeepersHavePorts : Type 0
KeepersHavePorts = (comps : Design) (n : Netlist) (refines : Refines comps n) → FilRules comps → HasPortsOf (component_signature refines.c) n

-- in a run that transactions drive, such a netlist carries them: there is no Conflict, and each instance at each path carries what it is given
abbrev pub DrivenRunsCarry : Type 0
DrivenRunsCarry =
    (comps : Design) (n : Netlist) (refines : Refines comps n) (list : TxList) → FilRules comps → AreTransactionsOf refines.c list →
    (asked : ℕ) (loads : Text → List ℕ) (height : ℕ) (trace : Trace) →
    NetRun n asked (driven_by (component_signature refines.c) (tx_run_seen list)) loads height trace →
    CarriesList comps refines.number (net_circuit n) (map (transaction_on refines.c) list.txs.items) asked height trace

-- where rows carry transactions, what is shown of them is what the source means
abbrev pub CarriedRowsAreMeant : Type 0
CarriedRowsAreMeant =
    (comps : Design) (number : ℕ) (c : Component) (n : Netlist) (list : TxList) → FilRules comps → slice_get comps number ≡ Some c →
    AreTransactionsOf c list → (asked height : ℕ) (trace : Trace) →
    CarriesList comps number (net_circuit n) (map (transaction_on c) list.txs.items) asked height trace → (t : ℕ) → t < height →
    outputs_line (map transaction_seen list.txs.items) (component_signature c).outs t (trace t) ≡ meant_line comps c (map transaction_seen list.txs.items) t

-- a run of the netlist whose inputs carry these transactions of the design's top component, a legal list; other inputs are free
pub record IsRunWith {comps : Design} {n : Netlist} (refines : Refines comps n) (txs : List Transaction) (height : ℕ) (trace : Trace) : Type 0 where
  pub legal : AreLegalTransactions (component_behaviour (take refines.number comps) refines.c).sig txs
  pub own : All (HasOwnValues (component_behaviour (take refines.number comps) refines.c)) txs
  pub asked : ℕ
  pub inputs : Trace
  pub loads : Text → List ℕ
  pub is_run : NetRun n asked inputs loads height trace
  pub given : GiveInputs (component_behaviour (take refines.number comps) refines.c) asked inputs txs

-- two transactions of the same event and the same values
pub record AreAlike (a b : Transaction) : Type 0 where
  pub event : a.event ≡ b.event
  pub values : (p : Text) → a.values p ≡ b.values p

-- outputs depend on their own transaction alone: in two runs, whenever each starts, whatever other transactions are in flight, and whatever is on the
-- inputs that no transaction covers, transactions that are alike have the same outputs, row by row of their intervals
abbrev pub NothingElseMatters : Type 0
NothingElseMatters =
    (comps : Design) (n : Netlist) (refines : Refines comps n) (txs others : List Transaction) (height height' : ℕ) (trace trace' : Trace) →
    IsRunWith refines txs height trace → IsRunWith refines others height' trace' →
    (a b : Transaction) → Contains txs a → Contains others b → AreAlike a b →
    (p : TimedPort) → Contains (component_behaviour (take refines.number comps) refines.c).sig.outs p → (k : ℕ) →
    Covers p a (a.start + k) → a.start + k < height → b.start + k < height' → trace (a.start + k) p.name ≡ trace' (b.start + k) p.name
