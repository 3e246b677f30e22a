use Rattle.std.proofs.Common.{◌≡◌, map}
use Rattle.hw_bits.specs.Values.{values_of, widths_of}
use Rattle.hw_prims.specs.Cell.{CellValue}
use Rattle.net_core.specs.Netlist.{netlist_of}
use Rattle.net_sim.proofs.EvaluateLemmas.{AreEvaluated}
use Rattle.net_sim.specs.Layout.{port_widths}
use Rattle.net_sim.specs.Sim.{input_row, states_of}
use Rattle.net_sim.proofs.evaluate.evaluate.Given as goal

abbrev pub invariant-loop-port : goal.invariant-loop-port
invariant-loop-port l = record {
  widths : widths_of l.values ≡ port_widths (netlist_of l.plan.net.now);
  made : AreEvaluated (netlist_of l.plan.net.now) (input_row (netlist_of l.plan.net.now) (values_of l.inputs)) (states_of (netlist_of l.plan.net.now) (map (λ (s : CellValue). s.state) l.states)) l.plan.order.now.ports l.port-index (values_of l.values) l.conflict;
}
