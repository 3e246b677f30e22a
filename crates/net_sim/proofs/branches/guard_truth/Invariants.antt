use Rattle.std.proofs.Common.{◌+◌, ◌<◌, length, List}
use Rattle.std.specs.Prelude.{Bool}
use Rattle.hw_bits.specs.Values.{values_of}
use Rattle.net_sim.specs.Branches.{AreBranches}
use Rattle.net_sim.specs.Tests.{Leads, end_of}
use Rattle.net_sim.specs.declared.guards.Test.{Test}
use Rattle.net_sim.proofs.branches.guard_truth.Given as goal

-- the tests lead on from this number to where they lead from the first
abbrev pub invariant-loop-number : goal.invariant-loop-number
invariant-loop-number l = record {
  within : l.number < length l.branches + 2;
  leads : (tests : List Test) (truth : Bool) → AreBranches (length l.values) l.literals tests l.branches → Leads tests (values_of l.values) (end_of truth) l.start → Leads tests (values_of l.values) (end_of truth) l.number;
}

abbrev pub decreases-loop-number : goal.decreases-loop-number
decreases-loop-number l = l.number
