-- What drives a port in a row: nothing, one value, or two assignments or more. This project's.
use Rattle.std.specs.Prelude.{◌≡◌, ℕ, ◌^◌, ◌<◌, ◌≤◌, List, [], ◌∷◌, length, if◌then◌else◌, Option, None, Some}
use Rattle.hw_prims.specs.Row.{Row}
use Rattle.net_core.specs.Guard.{guard_holds, source_value}
use Rattle.net_core.specs.Netlist.{SetLine}
use Rattle.net_sim.specs.declared.settle.Settled.{Settled}
use Rattle.net_sim.specs.declared.settle.Settled.TheVariants.{Undriven, Driven, Clash}

-- these are the values of the assignments that act; the one value fits this width
abbrev pub IsSettled : ℕ → List ℕ → Settled → Type 0
IsSettled width values Undriven = values ≡ []
IsSettled width values (Driven value) = (values ≡ value ∷ []) × (value < 2 ^ width)
IsSettled width values Clash = 2 ≤ length values

-- the value of an assignment whose guard is true
abbrev pub value_if_acting : Row → Option SetLine → List ℕ
value_if_acting row None = []
value_if_acting row (Some a) = if guard_holds row a.guard then source_value row a.src ∷ [] else []

-- the value that the port then has
abbrev pub settled_value : Settled → ℕ
settled_value (Driven value) = value
settled_value settled = 0

abbrev pub FitsWidth : ℕ → Settled → Type 0
FitsWidth width (Driven value) = value < 2 ^ width
FitsWidth width settled = Unit {0}

abbrev pub IsClash : Settled → Type 0
IsClash Clash = Unit {0}
IsClash settled = ⊥
