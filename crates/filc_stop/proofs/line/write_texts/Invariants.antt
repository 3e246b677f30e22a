use Rattle.std.proofs.Common.{◌≤◌, drop}
use Rattle.filc_stop.specs.Stops.{joined}
use Rattle.filc_stop.proofs.SinkLemmas.{GainedUpTo}
use Rattle.filc_stop.proofs.line.write_texts.Given as goal

-- the sink gained the texts up to the rest of them
abbrev pub invariant-loop-text : goal.invariant-loop-text
invariant-loop-text g l =
    let sink = g.S.Sink in
    record {
      gained : GainedUpTo (sink.written l.fn.sink) (sink.written l.sink) (joined (drop l.text-index l.texts)) (joined l.texts);
      never_falls : sink.faults l.fn.sink ≤ sink.faults l.sink;
    }
