use Rattle.std.proofs.Common.{◌≡◌, map, take}
use Rattle.hw_bits.specs.Values.{widths_of}
use Rattle.net_core.specs.declared.net.NetPort.{NetPort}
use Rattle.row_tests.proofs.rows.inputs_of.Given as goal

-- the inputs so far have the widths of the first ports
abbrev pub invariant-loop-port : goal.invariant-loop-port
invariant-loop-port l = widths_of l.inputs.items ≡ map (λ (p : NetPort). p.width) (take l.port-index l.net.ins.items)
