use Rattle.std.proofs.Common.{◌≡◌, take}
use Rattle.hw_prims.specs.Table.{inputs_of, pin_widths}
use Rattle.net_row.proofs.flat.input_widths.Given as goal

abbrev pub invariant-loop-number : goal.invariant-loop-number
invariant-loop-number l = l.widths.items ≡ take l.number (pin_widths (inputs_of l.prim))
