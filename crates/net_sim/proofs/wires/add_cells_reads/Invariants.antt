use Rattle.std.proofs.Common.{take}
use Rattle.std.specs.List.{flat_map}
use Rattle.net_core.specs.Netlist.{Netlist}
use Rattle.net_sim.specs.Layout.{port_names, AreCellPorts}
use Rattle.net_sim.specs.inside.Wires.{cell_readings, AddReadings}
use Rattle.net_sim.proofs.wires.add_cells_reads.Given as goal

abbrev pub invariant-loop-cell : goal.invariant-loop-cell
invariant-loop-cell l =
    (n : Netlist) → AreCellPorts n l.cells → AddReadings (port_names n) (flat_map cell_readings (take l.cell-index n.cells)) l.fn.entries.items l.entries.items
