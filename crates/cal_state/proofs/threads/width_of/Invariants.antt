use Rattle.std.proofs.Common.{ℕ, ◌+◌, ◌-◌}
use Rattle.cal_state.proofs.WidthLemmas.{IsSought}
use Rattle.cal_state.proofs.threads.width_of.Given as goal

abbrev pub invariant-loop-power : goal.invariant-loop-power
invariant-loop-power l = IsSought l.last l.width l.power

abbrev pub decreases-loop-power : goal.decreases-loop-power
decreases-loop-power l = l.last + 1 - l.power
