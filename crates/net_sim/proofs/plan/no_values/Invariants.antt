use Rattle.std.proofs.Common.{◌≡◌, map, take}
use Rattle.hw_bits.specs.Values.{widths_of}
use Rattle.net_core.specs.declared.table.PortInfo.{PortInfo}
use Rattle.net_sim.proofs.plan.no_values.Given as goal

abbrev pub invariant-loop-port : goal.invariant-loop-port
invariant-loop-port l = widths_of l.values.items ≡ map (λ (p : PortInfo). p.width) (take l.port-index l.port-items)
