use Rattle.std.proofs.Common.{◌≡◌, Some, length, refl, arith}
use Rattle.std.specs.Prelude.{slice_get}
use Rattle.std.proofs.lemmas.Option.{slice_get_read}
use Rattle.net_sim.proofs.BranchLemmas.{along_none, along_more, along_all, branch_kept, slot_kept, literals_kept, literals_on}
use Rattle.net_sim.specs.Branches.{IsBranchOf}
use Rattle.net_sim.proofs.lower.branches.Goals as goal

pub loop-test-init : goal.loop-test-init
loop-test-init c = record { kept = literals_kept c.args.literals.now.items; along = rw c.new-branches.ensures.items (along_none (IsBranchOf c.args.ports c.args.literals.now.items) c.args.tests.now) }

pub loop-test-preserved : goal.loop-test-preserved
loop-test-preserved c =
    let ports = c.args.ports in
    let tests = c.args.tests.now in
    let old = c.loop-test.literals.items in
    let mid = c.slot_of.new.literals.items in
    let new = c.slot_of-in-loop-test.new.literals.items in
    let i = c.loop-test.test-index in
    let test = c.test-item.result in
    let at : slice_get tests i ≡ Some test = slice_get_read tests (length tests) i test refl c.loop-test-test.true c.test-item.is in
    let branch = c.branch_of-lowered.result in
    let keeps = literals_on old mid new c.in_ok-left.ensures.kept c.in_ok-right.ensures.kept in
    let is : IsBranchOf ports new test branch = record {
      left = rw c.branch_of-lowered.ensures.left (slot_kept ports mid new c.in_ok-right.ensures.kept test.left c.in_ok-left.left c.in_ok-left.ensures.slot);
      right = rw c.branch_of-lowered.ensures.right c.in_ok-right.ensures.slot;
      leads = c.branch_of-lowered.ensures.leads;
    } in
    rw c.in_ok-push.ensures.items
    record {
      kept = literals_on c.args.literals.now.items old new c.loop-test.invariant.kept keeps;
      along = along_more (IsBranchOf ports old) (IsBranchOf ports new) tests c.loop-test.branches.items i test branch (branch_kept ports old new keeps) at is c.loop-test.invariant.along;
    }

pub returns-clause-branches : goal.returns-clause-branches
returns-clause-branches c = record {
  tests_are = c.requires.tests;
  along = along_all (IsBranchOf c.args.ports c.loop-test.literals.items) c.args.tests.now c.loop-test.branches.items c.loop-test.test-index (omega (arith, c.loop-test-test.false)) c.loop-test.invariant.along;
}
