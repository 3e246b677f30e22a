-- Laws of what a program's transactions are at the ports of their component. Filament, PLDI 2023.
use Rattle.std.specs.Prelude.{◌≡◌, ℕ, ◌<◌, List, length, map, filter, take, slice_get, Some, All}
use Rattle.hw_bits.specs.Values.{values_of}
use Rattle.hw_prims.specs.Timed as timed
use Rattle.fil_ast.specs.Behaviours.{HasOwnValues, component_behaviour, transaction_on}
use Rattle.fil_ast.specs.Flow.{Named}
use Rattle.fil_ast.specs.Holds.{AreLegalStarts}
use Rattle.fil_ast.specs.Rules.{FilRules}
use Rattle.fil_ast.specs.Transactions.{is_of_event, transaction_flow}
use Rattle.fil_ast.specs.Tree.{Event, DataPort, Component, Design}
use Rattle.fil_ast.specs.declared.tx.Tx.{Tx}
use Rattle.fil_share.specs.Uses.{starts_of}

-- it starts one of the component's events
abbrev pub IsOfEvent : Component → Tx → Type 0
IsOfEvent c tx = tx.event < length c.events

-- transactions whose starts are legal are legal at the ports
abbrev pub TransactionsAreLegal : Type 0
TransactionsAreLegal =
    (earlier : Design) (c : Component) (txs : List Tx) → All (IsOfEvent c) txs → AreLegalStarts c (starts_of c txs) →
    timed.AreLegalTransactions (component_behaviour earlier c).sig (map (transaction_on c) txs)

-- a transaction has no values for inputs of other events
abbrev pub TransactionsHaveOwnValues : Type 0
TransactionsHaveOwnValues =
    (comps : Design) (n : ℕ) (c : Component) (tx : Tx) → FilRules comps → slice_get comps n ≡ Some c → IsOfEvent c tx →
    HasOwnValues (component_behaviour (take n comps) c) (transaction_on c tx)

-- an output, with the value that the component's flow gives it in the transaction
abbrev pub output_in : Design → Component → Tx → DataPort → Named
output_in earlier c tx p = record { name = p.name; value = (component_behaviour earlier c).flow (transaction_on c tx).values p.name }

-- what a transaction computes is what the component promises: the flow at the outputs of the transaction's event
abbrev pub TransactionsKeepFlow : Type 0
TransactionsKeepFlow =
    (comps : Design) (n : ℕ) (c : Component) (tx : Tx) (e : Event) → FilRules comps → slice_get comps n ≡ Some c → slice_get c.events tx.event ≡ Some e →
    transaction_flow comps c e.name (values_of tx.values.items) ≡ map (output_in (take n comps) c tx) (filter (is_of_event e.name) c.outs)
