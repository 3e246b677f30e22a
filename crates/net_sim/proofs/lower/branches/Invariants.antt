use Rattle.net_sim.proofs.BranchLemmas.{AreAlongSoFar}
use Rattle.net_sim.specs.Branches.{IsBranchOf, KeepsLiterals}
use Rattle.net_sim.proofs.lower.branches.Given as goal

abbrev pub invariant-loop-test : goal.invariant-loop-test
invariant-loop-test l = record {
  kept : KeepsLiterals l.initial.literals.items l.literals.items;
  along : AreAlongSoFar (IsBranchOf l.ports l.literals.items) l.tests l.branches.items l.test-index;
}
