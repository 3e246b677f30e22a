use Rattle.std.proofs.Common.{◌≡◌, ◌-◌, ◌≤◌, length, IfSome}
use Rattle.hw_io.specs.Reading.{KeepsFiles}
use Rattle.hw_io.proofs.ReadingLemmas.{IsFront}
use Rattle.hw_io.proofs.reading.read_whole.Given as goal

-- what was read is the front of the content
abbrev pub invariant-loop-bytes : goal.invariant-loop-bytes
invariant-loop-bytes g l =
    let files = g.F.Files in
    record {
      kept : KeepsFiles files.names files.content files.faults l.name l.fn.files l.files;
      within : length l.bytes.items ≤ l.limit;
      told : IfSome (files.content l.files l.name) (λ content. IsFront content l.bytes.items);
      buffer : length l.piece ≡ 65536;
    }

abbrev pub decreases-loop-bytes : goal.decreases-loop-bytes
decreases-loop-bytes g l = l.limit - length l.bytes.items
