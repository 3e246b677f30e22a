use Rattle.std.proofs.Common.{length}
use Rattle.net_text.specs.inside.ReadTexts.{IsRead}
use Rattle.net_text.proofs.read.read_lines.Given as goal

abbrev pub invariant-loop-line : goal.invariant-loop-line
invariant-loop-line l = IsRead l.bytes l.net l.rest

abbrev pub decreases-loop-line : goal.decreases-loop-line
decreases-loop-line l = length l.rest
