use Rattle.std.proofs.Common.{◌≤◌, length}
use Rattle.hw_lex.specs.Cut.{Cuts}
use Rattle.hw_lex.proofs.Gaps.{HasNoSpace}
use Rattle.hw_lex.proofs.tokens.lex.Given as goal

abbrev pub invariant-loop-rest : goal.invariant-loop-rest
invariant-loop-rest l =
    Cuts l.dialect (length l.text) l.text l.tokens.items l.rest × HasNoSpace l.rest × (length l.rest ≤ length l.text)

abbrev pub decreases-loop-rest : goal.decreases-loop-rest
decreases-loop-rest l = length l.rest
