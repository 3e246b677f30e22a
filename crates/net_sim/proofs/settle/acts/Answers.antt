use Rattle.std.proofs.Common.{◌≡◌, ℕ, ◌+◌, ◌<◌, List, Some, length, get_or, refl, sym, subst, arith}
use Rattle.std.specs.Prelude.{slice_get}
use Rattle.std.proofs.lemmas.Option.{slice_get_read}
use Rattle.hw_bits.specs.Values.{values_of}
use Rattle.hw_bits.specs.declared.bits.Bits.{Bits}
use Rattle.net_core.specs.Guard.{guard_holds}
use Rattle.net_core.specs.Netlist.{netlist_of}
use Rattle.net_sim.proofs.GiverLemmas.{at_some}
use Rattle.net_sim.proofs.PlanLemmas.{count_values, count_numbers}
use Rattle.net_sim.proofs.PortValueLemmas.{values_in}
use Rattle.net_sim.specs.Branches.{AreBranches}
use Rattle.net_sim.specs.Layout.{port_names}
use Rattle.net_sim.specs.Plan.{IsPlan}
use Rattle.net_sim.specs.Sim.{port_row}
use Rattle.net_sim.specs.declared.branches.Branch.{Branch}
use Rattle.net_sim.specs.declared.plan.Plan.{Plan}
use Rattle.net_sim.proofs.settle.acts.Goals as goal

-- where an assignment's guard begins, as it is read
start_at : (plan : Plan) → IsPlan plan → (number : ℕ) → number < length (netlist_of plan.net.now).sets → (read : ℕ) → read ≡ get_or plan.lowered.starts.items number read → slice_get plan.lowered.starts.items number ≡ Some read
start_at plan is number lt read at = slice_get_read plan.lowered.starts.items (length plan.lowered.starts.items) number read refl (omega (arith, lt, is.lowered.guarded.all)) at

-- the branches of the tests, as they are passed
branches_are : (plan : Plan) → (is : IsPlan plan) → (branches : List Branch) (literals : List Bits) (count : ℕ) → branches ≡ plan.lowered.branches.items → literals ≡ plan.lowered.literals.items → count ≡ length (port_names (netlist_of plan.net.now)) → AreBranches count literals is.lowered.tests branches
branches_are plan is branches literals count same same' counted =
    subst (λ count. AreBranches count literals is.lowered.tests branches) (sym counted)
    (subst (λ l. AreBranches (length (port_names (netlist_of plan.net.now))) l is.lowered.tests branches) (sym same')
    (subst (AreBranches (length (port_names (netlist_of plan.net.now))) plan.lowered.literals.items is.lowered.tests) (sym same) is.lowered.branches))

pub guard_truth-requires-clause-branches : goal.guard_truth-requires-clause-branches
guard_truth-requires-clause-branches c =
    let plan = c.args.plan.now in
    let values = c.args.values.now in (
      c.requires.plan.lowered.tests,
      branches_are plan c.requires.plan c.as_slice.result.now c.as_slice-2.result.now (length values) c.as_slice.ensures.value c.as_slice-2.ensures.value (count_values (netlist_of plan.net.now) values c.requires.values),
    )

pub guard_truth-requires-clause-start : goal.guard_truth-requires-clause-start
guard_truth-requires-clause-start c =
    let plan = c.args.plan.now in
    let a = at_some (netlist_of plan.net.now).sets c.args.number c.requires.number in
    let at = start_at plan c.requires.plan c.args.number c.requires.number c.index-start.result.now c.index-start.ensures in
    let within = (c.requires.plan.lowered.guarded.each c.args.number a.0 c.index-start.result.now a.1 at).within in
    subst (λ (branches : List Branch). c.index-start.result.now < length branches + 2) (sym c.as_slice.ensures.value) (omega (arith, within, c.requires.plan.lowered.branches.along.all))

pub returns : goal.returns
returns c = λ a at.
    let plan = c.args.plan.now in
    let n = netlist_of plan.net.now in
    let values = c.args.values.now in
    let start = c.index-start.result.now in
    let lowered = c.requires.plan.lowered in
    let is = lowered.guarded.each c.args.number a start at (start_at plan c.requires.plan c.args.number c.requires.number start c.index-start.ensures) in
    let has = values_in n plan.order.now plan.cells.items lowered.sources plan.givers.items c.requires.plan.compiled (values_of values) (count_numbers n values c.requires.values) in
    let are = branches_are plan c.requires.plan c.as_slice.result.now c.as_slice-2.result.now (length values) c.as_slice.ensures.value c.as_slice-2.ensures.value (count_values n values c.requires.values) in
    c.guard_truth.ensures lowered.tests (guard_holds (port_row n (values_of values)) a.guard) are (is.leads (port_row n (values_of values)) (values_of values) has)
