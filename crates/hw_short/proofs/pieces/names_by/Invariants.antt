use Rattle.hw_short.proofs.ShortNameLemmas.{AreNamedTo}
use Rattle.hw_short.proofs.pieces.names_by.Given as goal

-- the names so far
abbrev pub invariant-loop-number : goal.invariant-loop-number
invariant-loop-number l = AreNamedTo l.ranks l.places l.number l.names
