use Rattle.net_steps.proofs.ApartLemmas.{Follows}
use Rattle.net_steps.proofs.apart.never_both.Given as goal

-- where the one holds the rest does
abbrev pub invariant-loop : goal.invariant-loop
invariant-loop l = Follows l.steps l.fn.one l.rest
