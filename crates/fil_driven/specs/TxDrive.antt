-- How transactions drive the inputs of their component's netlist: interface ports are 1 in the rows of starts, data inputs have their values in their
-- intervals, and the low bits of the idle number elsewhere. This project's, after Filament, PLDI 2023.
use Rattle.std.specs.Prelude.{◌≡◌, ℕ, suc, ◌+◌, ◌%◌, ◌^◌, ◌==◌, ◌&&◌, nat_le, nat_lt, Bool, false, List, [], ◌∷◌, ◌++◌, map, find, bytes_eq, if◌then◌else◌}
use Rattle.std.specs.Prelude.{Option, Some, None, IsSome, All}
use Rattle.std.specs.List.{list_any}
use Rattle.std.specs.Option.{option_map_or}
use Rattle.hw_names.specs.Name.{Text}
use Rattle.hw_prims.specs.Row.{Trace}
use Rattle.hw_prims.specs.Table.{Pin, pin}
use Rattle.net_core.specs.Netlist.{Netlist}
use Rattle.fil_ast.specs.Signature.{SigEvent, SigPort, Signature}
use Rattle.stim_read.specs.TxEvents.{ports_after}
use Rattle.stim_read.specs.TxRun.{Transaction, TxRun}

-- the row lies in the interval of the port, in this transaction
abbrev pub covers : SigPort → ℕ → Transaction → Bool
covers p row t = p.from.event == t.event && (nat_le (t.start + p.from.plus) row && nat_lt row (t.start + p.to.plus))

-- the transaction of these in whose interval of the port the row lies; of a legal list there is one at most
abbrev pub covering : SigPort → ℕ → List Transaction → Option Transaction
covering p row transactions = find (covers p row) transactions

-- the value of a name, of these ports with these values in their order; 0 where there is none
abbrev pub value_at : List SigPort → List ℕ → Text → ℕ
value_at (p ∷ ports) (v ∷ values) name = if bytes_eq p.name name then v else value_at ports values name
value_at ports values name = 0

-- what a transaction gives to an input of its event
abbrev pub given_value : Signature → Text → Transaction → ℕ
given_value sig name t = value_at (ports_after t.event sig.ins) t.values name

-- a data input in a row
abbrev pub input_in : Signature → TxRun → ℕ → SigPort → ℕ
input_in sig run row p = option_map_or (given_value sig p.name) (covering p row run.transactions) (run.idle % 2 ^ p.width)

-- a transaction starts the event with this number in the row
abbrev pub starts_in : ℕ → ℕ → Transaction → Bool
starts_in event row t = t.event == event && t.start == row

-- the interface port of event `number` in a row
abbrev pub go_in : TxRun → ℕ → ℕ → ℕ
go_in run row number = if list_any (starts_in number row) run.transactions then 1 else 0

-- the number of the event with this interface port, of events numbered from here on
abbrev pub event_with : ℕ → List SigEvent → Text → Option ℕ
event_with number [] go = None
event_with number (e ∷ events) go = if option_map_or (bytes_eq go) e.go false then Some number else event_with (suc number) events go

abbrev pub input_named : Signature → Text → Option SigPort
input_named sig name = find (λ (p : SigPort). bytes_eq p.name name) sig.ins

-- the inputs of the component's netlist, row by row
abbrev pub driven_by : Signature → TxRun → Trace
driven_by sig run row port =
    option_map_or (go_in run row) (event_with 0 sig.events port) (option_map_or (input_in sig run row) (input_named sig port) 0)

-- a data port as a pin of a netlist
abbrev pub port_pin : SigPort → Pin
port_pin p = pin p.name p.width

-- the netlist's inputs are the signature's interface ports, in any order, and then its data inputs, which have other names; its outputs are the signature's
pub record HasPortsOf (sig : Signature) (n : Netlist) : Type 0 where
  pub interfaces : List Pin
  pub ins : n.ins ≡ interfaces ++ map port_pin sig.ins
  pub triggers : All (λ (p : Pin). IsSome (event_with 0 sig.events p.name)) interfaces
  pub others : All (λ (p : SigPort). event_with 0 sig.events p.name ≡ None) sig.ins
  pub outs : n.outs ≡ map port_pin sig.outs
