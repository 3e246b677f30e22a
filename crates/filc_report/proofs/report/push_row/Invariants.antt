use Rattle.std.proofs.Common.{◌<◌, ◌≤◌, ◌++◌, length, slice_range}
use Rattle.filc_report.specs.declared.line.TheConstants.{LINE_BYTES}
use Rattle.filc_report.specs.Views.{line_at, ports_seen}
use Rattle.filc_report.proofs.RowLemmas.{rest_of_line}
use Rattle.filc_stop.proofs.SinkLemmas.{PassedUpTo}
use Rattle.filc_report.proofs.report.push_row.Given as goal

-- the line was passed on up to this port, but for what is in `line`, which has room for a byte more
abbrev pub invariant-loop-at : goal.invariant-loop-at
invariant-loop-at g l =
    let sink = g.O.Sink in
    record {
      passed : PassedUpTo (sink.written l.fn.out) l.fn.held (sink.written l.out) (l.held ++ l.line)
          (rest_of_line (ports_seen l.table.names l.view) (slice_range l.sim.values l.view.ports.start l.view.ports.end) l.view.shown.items l.at)
          (line_at l.fn.cycle l.table.names l.sim.values l.view);
      room : length l.line < LINE_BYTES;
      never_falls : sink.faults l.fn.out ≤ sink.faults l.out;
    }
