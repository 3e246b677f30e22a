use Rattle.std.proofs.Common.{◌≡◌, length, sym, ap, ◌∙◌, subst}
use Rattle.net_core.specs.Netlist.{netlist_of}
use Rattle.net_sim.proofs.BranchLemmas.{along_kept, slot_kept}
use Rattle.net_sim.specs.Branches.{IsSlotOf, AreSlots, AreBranches}
use Rattle.net_sim.specs.Layout.{port_names}
use Rattle.net_sim.specs.Tests.{AreTests}
use Rattle.net_sim.proofs.lower.lower.Goals as goal

pub branches-requires-clause-tests : goal.branches-requires-clause-tests
branches-requires-clause-tests c =
    let n = netlist_of c.args.net.now in
    let count : c.len-ports.result ≡ length (port_names n) = c.len-ports.ensures.len ∙ ap length c.requires.table.names in
    subst (AreTests c.len-ports.result) (sym c.as_slice-2.ensures.value) (subst (λ ports. AreTests ports c.in_ok-tests.field-0.tests.items) (sym count) c.in_ok-tests.ensures.tests_are)

pub returns : goal.returns
returns c =
    let n = netlist_of c.args.net.now in
    let ports = c.len-ports.result in
    let count : ports ≡ length (port_names n) = c.len-ports.ensures.len ∙ ap length c.requires.table.names in
    let old = c.slots.new.literals.items in
    let literals = c.branches.new.literals.items in
    let sources = c.in_ok-sources.sources.items in
    let slots = c.in_ok-slots.slots.items in
    let tests = c.in_ok-tests.field-0.tests.items in
    let branches = c.in_ok-branches.branches.items in
    let slots_are : AreSlots ports old sources slots = subst (λ s. AreSlots ports old s slots) c.as_slice.ensures.value c.in_ok-slots.ensures in
    let branches_are : AreBranches ports literals tests branches = subst (λ t. AreBranches ports literals t branches) c.as_slice-2.ensures.value c.in_ok-branches.ensures.branches in
    record {
      sources = sources;
      sourced = c.in_ok-sources.ensures;
      slots = subst (λ p. AreSlots p literals sources slots) count (along_kept (IsSlotOf ports old) (IsSlotOf ports literals) sources slots (slot_kept ports old literals c.in_ok-branches.ensures.kept) slots_are);
      tests = tests;
      guarded = c.in_ok-tests.ensures;
      branches = subst (λ p. AreBranches p literals tests branches) count branches_are;
    }
