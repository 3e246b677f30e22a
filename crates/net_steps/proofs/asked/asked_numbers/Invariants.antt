use Rattle.net_steps.proofs.ApartLemmas.{Follows}
use Rattle.net_steps.proofs.asked.asked_numbers.Given as goal

-- where the truth holds the rest does
abbrev pub invariant-loop : goal.invariant-loop
invariant-loop l = Follows l.steps l.fn.truth l.rest
