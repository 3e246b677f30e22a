use Rattle.std.proofs.Common.{take, slice_index}
use Rattle.hw_bits.specs.Values.{values_of}
use Rattle.net_core.specs.Netlist.{netlist_of}
use Rattle.net_sim.proofs.SettleLemmas.{acting_values}
use Rattle.net_sim.specs.Layout.{port_widths}
use Rattle.net_sim.specs.inside.Settled.{IsSettled}
use Rattle.net_sim.specs.Sim.{port_row}
use Rattle.net_sim.proofs.settle.settle.Given as goal

abbrev pub invariant-loop-number : goal.invariant-loop-number
invariant-loop-number l =
    IsSettled (slice_index (port_widths (netlist_of l.plan.net.now)) l.port)
    (acting_values (port_row (netlist_of l.plan.net.now) (values_of l.values)) (netlist_of l.plan.net.now).sets (take l.number-index l.number-items)) l.settled
