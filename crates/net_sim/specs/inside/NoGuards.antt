-- Netlists without guards.
use Rattle.std.specs.Prelude.{◌≡◌, ℕ, slice_get, Some, None}
use Rattle.net_core.specs.Netlist.{Netlist, SetLine}

-- no assignment has a guard
abbrev pub HasNoGuards : Netlist → Type 0
HasNoGuards n = (k : ℕ) (a : SetLine) → slice_get n.sets k ≡ Some a → a.guard ≡ None
