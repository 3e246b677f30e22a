use Rattle.std.proofs.Common.{take}
use Rattle.net_row.proofs.MadeLemmas.{AddsFirst}
use Rattle.net_row.proofs.compile.drivers.Given as goal

abbrev pub invariant-loop-number : goal.invariant-loop-number
invariant-loop-number l = AddsFirst l.numbered l.fn.made l.made (take l.number-index l.number-items) l.drivers.items
