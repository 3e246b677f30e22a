use Rattle.std.proofs.Common.{length}
use Rattle.hw_lex.specs.Gap.{Gap}
use Rattle.hw_lex.proofs.gap.after_gap.Given as goal

abbrev pub invariant-loop-after : goal.invariant-loop-after
invariant-loop-after l = Gap l.text l.rest

abbrev pub decreases-loop-after : goal.decreases-loop-after
decreases-loop-after l = length l.rest
