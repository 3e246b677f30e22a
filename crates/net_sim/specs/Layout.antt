-- Where the ports of a netlist stand in their order: inputs, outputs, wires, then each cell's ports, its inputs first. This project's.
use Rattle.std.specs.Prelude.{◌≡◌, ℕ, ◌+◌, List, [], length, map, take, slice_get, slice_index_or, Some}
use Rattle.std.specs.List.{flat_map}
use Rattle.hw_names.specs.Name.{Text}
use Rattle.hw_prims.specs.Table.{prim_of, IsMade}
use Rattle.net_core.specs.Netlist.{Netlist, CellLine}
use Rattle.net_core.specs.Rules.{PortLine, ports_of, ports_from}
use Rattle.net_sim.specs.declared.cells.CellPorts.{CellPorts}

-- the names of the ports, in their order
abbrev pub port_names : Netlist → List Text
port_names n = map (λ (p : PortLine). p.name) (ports_of n)

-- the widths of the ports, in their order, in bits
abbrev pub port_widths : Netlist → List ℕ
port_widths n = map (λ (p : PortLine). p.width) (ports_of n)

-- the name of the port with this number
abbrev pub name_of : Netlist → ℕ → Text
name_of n port = slice_index_or (port_names n) port []

abbrev pub ports_of_cell : CellLine → List PortLine
ports_of_cell c = ports_from (prim_of c.prim c.params) c.name c.prim

-- how many ports of its own a netlist has
abbrev pub own_count : Netlist → ℕ
own_count n = length n.ins + length n.outs + length n.wires

-- the number of the first port of a cell
abbrev pub first_port : Netlist → ℕ → ℕ
first_port n k = own_count n + length (flat_map ports_of_cell (take k n.cells))

-- the cell's primitive and the number of its first port
pub record IsCellPorts (n : Netlist) (k : ℕ) (c : CellLine) (ports : CellPorts) : Type 0 where
  pub prim : prim_of c.prim c.params ≡ Some ports.prim
  pub made : IsMade ports.prim
  pub first : ports.first ≡ first_port n k

pub record AreCellPorts (n : Netlist) (cells : List CellPorts) : Type 0 where
  pub all : length cells ≡ length n.cells
  pub each : (k : ℕ) (c : CellLine) (ports : CellPorts) → slice_get n.cells k ≡ Some c → slice_get cells k ≡ Some ports → IsCellPorts n k c ports
