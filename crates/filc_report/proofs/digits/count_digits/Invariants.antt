use Rattle.std.proofs.Common.{◌≡◌, ◌+◌, length, decimal}
use Rattle.filc_report.proofs.digits.count_digits.Given as goal

-- what is left has the other digits
abbrev pub invariant-loop-left : goal.invariant-loop-left
invariant-loop-left l = l.count + length (decimal l.left) ≡ length (decimal l.number)

abbrev pub decreases-loop-left : goal.decreases-loop-left
decreases-loop-left l = l.left
