use Rattle.std.proofs.Common.{◌≡◌, map, take}
use Rattle.hw_bits.specs.Values.{widths_of}
use Rattle.net_core.specs.declared.net.NetPort.{NetPort}
use Rattle.net_tests.proofs.rows.inputs_of.Given as goal

-- the inputs so far have the widths of the first ports
abbrev pub invariant-loop-i : goal.invariant-loop-i
invariant-loop-i l = widths_of l.inputs.items ≡ map (λ (p : NetPort). p.width) (take l.i l.net.ins.items)
