-- The ports of a table by their numbers.
use Rattle.std.specs.Prelude.{◌≡◌, ℕ, length, slice_get, Some}
use Rattle.net_core.specs.declared.table.PortInfo.{PortInfo}
use Rattle.net_core.specs.declared.table.Table.{Table}

-- each name has a port, and a port's number is its name's
pub record NumbersPortsAsNames (table : Table) : Type 0 where
  pub all : length table.ports.items ≡ length table.names
  pub numbers : (k : ℕ) (info : PortInfo) → slice_get table.ports.items k ≡ Some info → info.name.0 ≡ k
