use Rattle.net_sim.proofs.BranchLemmas.{AreAlongSoFar}
use Rattle.net_sim.specs.Branches.{IsSlotOf}
use Rattle.net_sim.proofs.lower.slots.Given as goal

abbrev pub invariant-loop-source : goal.invariant-loop-source
invariant-loop-source l = AreAlongSoFar (IsSlotOf l.ports l.literals.items) l.sources l.slots.items l.source-index
