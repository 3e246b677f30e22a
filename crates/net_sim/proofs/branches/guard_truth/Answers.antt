use Rattle.std.proofs.Common.{◌≡◌, ℕ, ◌<◌, ◌+◌, ◌-◌, List, Bool, true, false, length, get_or, sym, subst, ◌∙◌, arith}
use Rattle.std.specs.Prelude.{slice_get, Some}
use Rattle.std.proofs.lemmas.Option.{slice_get-get_or}
use Rattle.hw_bits.specs.Values.{values_of}
use Rattle.net_sim.proofs.BranchLemmas.{step_of}
use Rattle.net_sim.proofs.TestLemmas.{leads_next, truth_is}
use Rattle.net_sim.specs.Tests.{Leads, end_of}
use Rattle.net_sim.specs.declared.branches.Branch.{Branch}
use Rattle.net_sim.proofs.branches.guard_truth.Goals as goal

end_small : (truth : Bool) → end_of truth < 2
end_small true = omega arith
end_small false = omega arith

-- a branch as it is read
abbrev branch_at : List Branch → ℕ → Branch
branch_at branches k = get_or branches k (record { left = 0; right = 0; less = 0; equal = 0; greater = 0 })

is_at : (branches : List Branch) (k : ℕ) → k < length branches → slice_get branches k ≡ Some (branch_at branches k)
is_at branches k lt = slice_get-get_or branches k (record { left = 0; right = 0; less = 0; equal = 0; greater = 0 }) lt

pub next-number-requires-clause-left : goal.next-number-requires-clause-left
next-number-requires-clause-left c =
    let branches = c.args.branches.now in
    let k = c.loop-number.number - 2 in
    let lt : k < length branches = omega (arith, c.loop-number.invariant.within, c.loop-number-test.true) in
    let branch = branch_at branches k in
    (step_of c.args.values.now c.args.literals.now c.requires.branches.0 branches c.requires.branches.1 k branch (is_at branches k lt)).left

pub next-number-requires-clause-right : goal.next-number-requires-clause-right
next-number-requires-clause-right c =
    let branches = c.args.branches.now in
    let k = c.loop-number.number - 2 in
    let lt : k < length branches = omega (arith, c.loop-number.invariant.within, c.loop-number-test.true) in
    let branch = branch_at branches k in
    (step_of c.args.values.now c.args.literals.now c.requires.branches.0 branches c.requires.branches.1 k branch (is_at branches k lt)).right

pub loop-number-preserved : goal.loop-number-preserved
loop-number-preserved c =
    let branches = c.args.branches.now in
    let values = c.args.values.now in
    let literals = c.args.literals.now in
    let k = c.loop-number.number - 2 in
    let lt : k < length branches = omega (arith, c.loop-number.invariant.within, c.loop-number-test.true) in
    let here : c.loop-number.number ≡ k + 2 = omega (arith, c.loop-number-test.true) in
    let branch = branch_at branches k in
    let at = is_at branches k lt in
    let step = step_of values literals c.requires.branches.0 branches c.requires.branches.1 k branch at in
    record {
      within = omega (arith, step.falls, step.next, c.next-number.ensures, lt);
      leads = λ tests truth are from.
          let other = step_of values literals tests branches are k branch at in
          subst (Leads tests (values_of values) (end_of truth)) (sym (c.next-number.ensures ∙ other.next))
          (leads_next tests (values_of values) (end_of truth) k other.test c.loop-number.number (end_small truth) here other.at (c.loop-number.invariant.leads tests truth are from));
    }

pub loop-number-smaller : goal.loop-number-smaller
loop-number-smaller c =
    let branches = c.args.branches.now in
    let k = c.loop-number.number - 2 in
    let lt : k < length branches = omega (arith, c.loop-number.invariant.within, c.loop-number-test.true) in
    let branch = branch_at branches k in
    let step = step_of c.args.values.now c.args.literals.now c.requires.branches.0 branches c.requires.branches.1 k branch (is_at branches k lt) in
    omega (arith, step.falls, step.next, c.next-number.ensures, c.loop-number-test.true)

pub returns : goal.returns
returns c = λ tests truth are from. truth_is tests (values_of c.args.values.now) truth c.loop-number.number c.loop-number-test.false (c.loop-number.invariant.leads tests truth are from)
