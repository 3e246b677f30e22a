use Rattle.std.proofs.Common.{◌≤◌, drop}
use Rattle.filc_stop.specs.Stops.{joined}
use Rattle.filc_stop.proofs.SinkLemmas.{PassedUpTo}
use Rattle.filc_report.proofs.report.push_texts.Given as goal

-- the texts were passed on up to the rest of them
abbrev pub invariant-loop-text : goal.invariant-loop-text
invariant-loop-text g l =
    let sink = g.O.Sink in
    record {
      passed : PassedUpTo (sink.written l.fn.out) l.fn.held (sink.written l.out) l.held (joined (drop l.text-index l.texts)) (joined l.texts);
      never_falls : sink.faults l.fn.out ≤ sink.faults l.out;
    }
