use Rattle.std.proofs.Common.{◌≤◌, drop}
use Rattle.filc_stop.specs.Lines.{spaced}
use Rattle.filc_stop.proofs.SinkLemmas.{GainedUpTo}
use Rattle.filc_stop.proofs.line.write_ports.Given as goal

-- the sink gained the ports up to the rest of them
abbrev pub invariant-loop-port : goal.invariant-loop-port
invariant-loop-port g l =
    let sink = g.S.Sink in
    record {
      gained : GainedUpTo (sink.written l.fn.sink) (sink.written l.sink) (spaced (drop l.port-index l.ports)) (spaced l.ports);
      never_falls : sink.faults l.fn.sink ≤ sink.faults l.sink;
    }
