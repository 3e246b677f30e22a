use Rattle.std.proofs.Common.{sym}
use Rattle.hw_lex.specs.Gap.{none}
use Rattle.hw_lex.proofs.Gaps.{after_space_told, after_space_is, Space-shorter, Gap-then}
use Rattle.hw_lex.proofs.gap.after_gap.Goals as goal

pub loop-after-init : goal.loop-after-init
loop-after-init c = none

pub loop-after-smaller : goal.loop-after-smaller
loop-after-smaller c = Space-shorter _ _ (after_space_told _ _ (sym c.in-Some.ensures))

pub loop-after-preserved : goal.loop-after-preserved
loop-after-preserved c = Gap-then _ _ _ c.loop-after.invariant (after_space_told _ _ (sym c.in-Some.ensures))

pub returns-clause-whole : goal.returns-clause-whole
returns-clause-whole c = λ rest s.
    let found = after_space_is _ rest s in
    let h = c.in_default.ensures in
    absurd cc
