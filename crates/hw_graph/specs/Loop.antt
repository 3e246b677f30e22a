-- What an order's end tells of a loop. This project's.
use Rattle.std.specs.Prelude.{ℕ, List, Result, Ok, Err}
use Rattle.hw_graph.specs.declared.order_end.OrderEnd.{OrderEnd}
use Rattle.hw_graph.specs.declared.order_end.OrderEnd.TheVariants.{Loop, Memory}

-- a fact about the loop, where there is one
abbrev pub AtLoop : OrderEnd → (List ℕ → Type 0) → Type 0
AtLoop (Loop ports) P = P ports.items
AtLoop Memory P = Unit {0}

-- a fact about the loop, where there is one in place of an order
abbrev pub IfLoop : {T : Type 0} → Result T OrderEnd → (List ℕ → Type 0) → Type 0
IfLoop (Ok value) P = Unit {0}
IfLoop (Err end) P = AtLoop end P
