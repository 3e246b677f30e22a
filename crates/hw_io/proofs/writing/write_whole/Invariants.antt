use Rattle.std.proofs.Common.{◌-◌, ◌≤◌, length, take}
use Rattle.std.specs.Io.KnownBytes.{Appends}
use Rattle.hw_io.proofs.writing.write_whole.Given as goal

-- the sink gained the front of the bytes
abbrev pub invariant-loop-taken : goal.invariant-loop-taken
invariant-loop-taken g l =
    let sink = g.S.Sink in
    record {
      within : l.taken ≤ length l.bytes;
      appended : Appends (sink.written l.fn.sink) (sink.written l.sink) (take l.taken l.bytes);
      never_falls : sink.faults l.fn.sink ≤ sink.faults l.sink;
    }

abbrev pub decreases-loop-taken : goal.decreases-loop-taken
decreases-loop-taken g l = length l.bytes - l.taken
