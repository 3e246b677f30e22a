use Rattle.std.proofs.Common.{◌≤◌, [], drop}
use Rattle.filc_report.proofs.HoldLemmas.{lines_of}
use Rattle.filc_stop.proofs.SinkLemmas.{PassedUpTo}
use Rattle.filc_report.proofs.holds.write_holds.Given as goal

-- the lines of the holds so far were passed on
abbrev pub invariant-loop-hold : goal.invariant-loop-hold
invariant-loop-hold g l =
    let sink = g.O.Sink in
    let names = l.built.design.names in
    record {
      passed : PassedUpTo (sink.written l.fn.out) [] (sink.written l.out) l.held (lines_of names (drop l.hold-index l.hold-items)) (lines_of names l.hold-items);
      never_falls : sink.faults l.fn.out ≤ sink.faults l.out;
    }
