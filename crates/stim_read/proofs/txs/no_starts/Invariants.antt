use Rattle.std.proofs.Common.{◌≡◌, None, replicate}
use Rattle.stim_read.proofs.txs.no_starts.Given as goal

abbrev pub invariant-loop-event : goal.invariant-loop-event
invariant-loop-event l = l.last.items ≡ replicate l._event None
