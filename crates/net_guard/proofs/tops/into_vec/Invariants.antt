use Rattle.std.proofs.Common.{◌≡◌, ◌++◌, length}
use Rattle.net_guard.proofs.tops.into_vec.Given as goal

abbrev pub invariant-loop-guard : goal.invariant-loop-guard
invariant-loop-guard l = l.guards.items ++ l.list ≡ l.fn.list

abbrev pub decreases-loop-guard : goal.decreases-loop-guard
decreases-loop-guard l = length l.list
