use Rattle.std.proofs.Common.{◌≡◌, take}
use Rattle.hw_bits.specs.Values.{widths_of}
use Rattle.hw_prims.specs.Table.{inputs_of, pin_widths}
use Rattle.hw_tests.proofs.primitives.inputs_with.Given as goal

-- the inputs so far have the widths of the first ports
abbrev pub invariant-loop-i : goal.invariant-loop-i
invariant-loop-i l = widths_of l.inputs.items ≡ take l.i (pin_widths (inputs_of l.prim))
