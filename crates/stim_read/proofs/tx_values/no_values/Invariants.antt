use Rattle.std.proofs.Common.{◌≡◌, None, replicate}
use Rattle.stim_read.proofs.tx_values.no_values.Given as goal

abbrev pub invariant-loop-place : goal.invariant-loop-place
invariant-loop-place l = l.found.items ≡ replicate l._place None
