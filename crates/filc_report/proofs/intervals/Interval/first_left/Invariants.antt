use Rattle.std.proofs.Common.{length, ◌-◌, ◌≤◌}
use Rattle.std.specs.List.{AllWithin}
use Rattle.filc_report.specs.Intervals.{IsOver}
use Rattle.filc_report.proofs.intervals.Interval.first_left.Given as goal

-- the transactions before the next are over
abbrev pub invariant-loop-next : goal.invariant-loop-next
invariant-loop-next l =
    record {
      within : l.next ≤ length l.txs;
      over : AllWithin (IsOver l.self l.row) l.txs 0 l.next;
    }

abbrev pub decreases-loop-next : goal.decreases-loop-next
decreases-loop-next l = length l.txs - l.next
