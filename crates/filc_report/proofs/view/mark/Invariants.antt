use Rattle.std.proofs.Common.{◌≡◌, ◌++◌, map, take, drop}
use Rattle.std.specs.Option.{is_some}
use Rattle.filc_report.specs.Intervals.{holding, ArePassedBy}
use Rattle.filc_report.specs.declared.intervals.Interval.{Interval}
use Rattle.filc_report.proofs.view.mark.Given as goal

-- the intervals so far are marked; each has passed only what is over
abbrev pub invariant-loop-at : goal.invariant-loop-at
invariant-loop-at l =
    record {
      passed : ArePassedBy l.intervals l.txs l.nexts l.row;
      marks : l.shown ≡ map (λ (i : Interval). is_some (holding i l.row l.txs)) (take l.at l.intervals) ++ drop l.at l.fn.shown;
    }
