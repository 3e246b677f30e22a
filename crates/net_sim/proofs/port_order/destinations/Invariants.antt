use Rattle.std.proofs.Common.{take}
use Rattle.net_core.specs.Netlist.{netlist_of}
use Rattle.net_sim.specs.inside.Destinations.{AreDestinations}
use Rattle.net_sim.specs.Layout.{port_names}
use Rattle.net_sim.proofs.port_order.destinations.Given as goal

abbrev pub invariant-loop-number : goal.invariant-loop-number
invariant-loop-number l = AreDestinations (port_names (netlist_of l.net)) 0 l.entries.items (take l.number (netlist_of l.net).sets)
