use Rattle.std.proofs.Common.{◌≡◌, take, slice_range}
use Rattle.filc_report.specs.Sums.{marked_sum, wrapped}
use Rattle.filc_report.proofs.sums.sum_marked.Given as goal

-- the marked ones of the values so far were added
abbrev pub invariant-loop-at : goal.invariant-loop-at
invariant-loop-at l =
    l.total ≡ wrapped (marked_sum (take l.at (slice_range l.sim.values l.view.ports.start l.view.ports.end)) (take l.at l.view.shown.items))
