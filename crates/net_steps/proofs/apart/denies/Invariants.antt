use Rattle.net_steps.proofs.ApartLemmas.{Follows}
use Rattle.net_steps.proofs.apart.denies.Given as goal

-- where the whole holds the rest does
abbrev pub invariant-loop : goal.invariant-loop
invariant-loop l = Follows l.steps l.fn.whole l.rest
