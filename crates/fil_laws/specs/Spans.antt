-- Two notions of what an instance is given are one: what transactions hold of it, and the transactions that it gets. Filament, PLDI 2023; the laws are
-- this project's.
use Rattle.std.specs.Prelude.{◌≡◌, ℕ, ◌+◌, ◌<◌, Bool, List, length, map, filter, take, slice_get, Some, All, bytes_eq}
use Rattle.hw_names.specs.Name.{Text}
use Rattle.hw_prims.specs.Timed.{Transaction}
use Rattle.fil_ast.specs.Behaviours.{event_named, inner_transactions, transaction_on}
use Rattle.fil_ast.specs.Holds.{Hold, Start, holds_of}
use Rattle.fil_ast.specs.Rules.{FilRules}
use Rattle.fil_ast.specs.Tree.{Component, Design}
use Rattle.fil_ast.specs.Wires.{whole_scope}
use Rattle.fil_ast.specs.declared.tx.Tx.{Tx}
use Rattle.fil_share.specs.Carried.{IsOfEvent}
use Rattle.fil_share.specs.Uses.{starts_of}

-- an event of an instance, held in the rows [from, to)
pub record Span : Type 0 where
  pub event : ℕ
  pub from : ℕ
  pub to : ℕ

abbrev pub span_held : Hold → Span
span_held h = record { event = h.event; from = h.from; to = h.to }

abbrev pub span_given : Transaction → Span
span_given tx = record { event = tx.event; from = tx.start; to = tx.start + tx.hold }

abbrev pub is_of : Text → Hold → Bool
is_of inst h = bytes_eq h.inst inst

-- it starts one of the component's events
abbrev pub StartsEvent : Component → Transaction → Type 0
StartsEvent c tx = tx.event < length c.events

-- when it does
abbrev pub start_given : Component → Transaction → Start
start_given c tx = record { event = event_named c tx.event; row = tx.start }

-- what transactions hold of an instance is, span by span and in the same order, what the transactions hold that it gets
abbrev pub HoldsAreGiven : Type 0
HoldsAreGiven =
    (comps : Design) (n : ℕ) (c : Component) → FilRules comps → slice_get comps n ≡ Some c →
    (txs : List Transaction) → All (StartsEvent c) txs → (inst : Text) →
    map span_held (filter (is_of inst) (holds_of (whole_scope (take n comps) c) (map (start_given c) txs)))
    ≡ map span_given (inner_transactions (take n comps) c txs inst)

-- a program's transactions start when they do at the ports of their component
abbrev pub StartsAreGiven : Type 0
StartsAreGiven =
    (c : Component) (txs : List Tx) → All (IsOfEvent c) txs → starts_of c txs ≡ map (start_given c) (map (transaction_on c) txs)

-- so what a program's transactions hold of an instance is, span by span, what the transactions hold that it gets
abbrev pub ProgramHoldsAreGiven : Type 0
ProgramHoldsAreGiven =
    (comps : Design) (n : ℕ) (c : Component) → FilRules comps → slice_get comps n ≡ Some c →
    (txs : List Tx) → All (IsOfEvent c) txs → (inst : Text) →
    map span_held (filter (is_of inst) (holds_of (whole_scope (take n comps) c) (starts_of c txs)))
    ≡ map span_given (inner_transactions (take n comps) c (map (transaction_on c) txs) inst)
