-- The numbers of a netlist's ports, and the conditions on trees of names.
use Rattle.std.specs.Prelude.{◌≡◌, ℕ, map, slice_get, Some}
use Rattle.net_core.specs.Netlist.{Netlist}
use Rattle.net_core.specs.Rules.{PortLine, ports_of, port_names}
use Rattle.net_core.specs.declared.table.PortInfo.{PortInfo}
use Rattle.net_core.specs.declared.table.Table.{Table}

-- the table lists the netlist's ports in their order, and a port's number is its name's
pub record IsTableOf (n : Netlist) (table : Table) : Type 0 where
  pub names : table.names ≡ port_names (ports_of n)
  pub widths : map (λ (p : PortInfo). p.width) table.ports.items ≡ map (λ (p : PortLine). p.width) (ports_of n)
  pub numbers : (k : ℕ) (info : PortInfo) → slice_get table.ports.items k ≡ Some info → info.name.0 ≡ k
