use Rattle.std.proofs.Common.{◌≡◌, map, take}
use Rattle.hw_bits.specs.Values.{widths_of}
use Rattle.net_core.specs.declared.net.NetPort.{NetPort}
use Rattle.net_lanes.proofs.lane_sim.no_inputs.Given as goal

-- each input so far has a 0 of its width
abbrev pub invariant-loop-port : goal.invariant-loop-port
invariant-loop-port l = widths_of l.inputs.items ≡ map (λ (p : NetPort). p.width) (take l.port-index l.ins)
