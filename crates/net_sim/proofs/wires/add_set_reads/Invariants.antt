use Rattle.std.proofs.Common.{take}
use Rattle.std.specs.List.{flat_map}
use Rattle.net_core.specs.Netlist.{netlist_of}
use Rattle.net_sim.specs.Layout.{port_names}
use Rattle.net_sim.specs.inside.Wires.{set_readings, AddReadings}
use Rattle.net_sim.proofs.wires.add_set_reads.Given as goal

abbrev pub invariant-loop-set : goal.invariant-loop-set
invariant-loop-set l =
    AddReadings (port_names (netlist_of l.net)) (flat_map set_readings (take l.set-index (netlist_of l.net).sets)) l.fn.entries.items l.entries.items
