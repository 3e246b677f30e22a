use Rattle.net_steps.proofs.ApartLemmas.{AsksUpto}
use Rattle.net_steps.proofs.asked.numbers_of.Given as goal

-- where the truth holds the slot has one of the numbers, or the rest holds
abbrev pub invariant-loop : goal.invariant-loop
invariant-loop l = AsksUpto l.steps l.fn.truth l.slot l.numbers.items l.rest
