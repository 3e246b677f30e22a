use Rattle.std.proofs.Common.{◌≡◌, ◌∙◌, All, length, ap, sym, arith, subst}
use Rattle.std.specs.Vec.{with_items}
use Rattle.std.proofs.lemmas.List.{with_items_is}
use Rattle.net_sim.proofs.SimLemmas.{if_evaluated}
use Rattle.net_sim.specs.Sim.{SimValue, IfEvaluated, IsEdgeOfSim}
use Rattle.net_sim.specs.declared.sim.Phase.TheVariants.{Stepped}
use Rattle.net_steps.specs.Others.{AreNarrow}
use Rattle.net_row.proofs.FlatSimLemmas.{others_narrow, edge_holds, edge_fit, edge_sim}
use Rattle.net_row.specs.Flats.{current_program, flat_value, states_from, values_from}
use Rattle.net_row.specs.Programs.{AreSlots}
use Rattle.net_row.specs.declared.program.Program.{Program}
use Rattle.net_row.proofs.flat.Flat.edge.Goals as goal

pub step_others-requires-clause-narrow : goal.step_others-requires-clause-narrow
step_others-requires-clause-narrow c =
    let flat = c.self.inside in
    let is = c.self.invariant in
    subst AreNarrow (sym c.as_mut_slice-in-Evaluated.ensures.value) (others_narrow flat.net.now flat.table.now flat.kinds.items (current_program flat) flat.shown.items is.built flat.others.items flat.kept.items flat.slots.items is.are)

pub step_others-requires-clause-count : goal.step_others-requires-clause-count
step_others-requires-clause-count c =
    let is = c.self.invariant in
    omega (arith, ap length c.as_slice-in-Evaluated-2.ensures.value, ap (λ (p : Program). length p.places.items) c.at-program.ensures, is.built.program_is.places.all, is.are.others_are.all, ap length c.as_mut_slice-in-Evaluated.ensures.value)

pub step_others-requires-clause-places : goal.step_others-requires-clause-places
step_others-requires-clause-places c =
    let flat = c.self.inside in
    let is = c.self.invariant in
    let program = current_program flat in
    let within : All (AreSlots (length flat.slots.items)) program.places.items = λ k d lt i e lt_slot.
    let below = is.are.sound.places k d lt i e lt_slot in
    omega (arith, below, is.are.slots_all) in
    let same : c.as_slice-in-Evaluated-2.result.now ≡ program.places.items = c.as_slice-in-Evaluated-2.ensures.value ∙ ap (λ (p : Program). p.places.items) c.at-program.ensures in
    subst (λ ps. All (AreSlots (length c.as_slice-in-Evaluated-3.result.now)) ps) (sym same)
    (subst (λ s. All (AreSlots (length s)) program.places.items) (sym c.as_slice-in-Evaluated-3.ensures.value) within)

pub invariant_of-self : goal.invariant_of-self
invariant_of-self c =
    let flat = c.self.inside in
    let is = c.self.invariant in
    let next_are : c.as_slice.result.now ≡ (current_program flat).next.items = c.as_slice.ensures.value ∙ ap (λ (p : Program). p.next.items) c.at-program.ensures in
    let places_are : c.as_slice-in-Evaluated-2.result.now ≡ (current_program flat).places.items = c.as_slice-in-Evaluated-2.ensures.value ∙ ap (λ (p : Program). p.places.items) c.at-program.ensures in
    let kept = with_items_is flat.kept c.step_kept.new.kept (omega (arith, c.step_kept.auto.kept, ap length c.as_mut_slice.ensures.value, flat.kept.ok.0)) in
    let others = with_items_is flat.others c.step_others.new.others (omega (arith, c.step_others.ensures.all, ap length c.as_mut_slice-in-Evaluated.ensures.value, flat.others.ok.0)) in
    record {
      built = is.built;
      are = edge_holds flat is c.in-Evaluated.is c.as_slice.result.now c.as_slice-in-Evaluated.result.now c.step_kept.new.kept (with_items flat.kept c.step_kept.new.kept).items next_are c.as_slice-in-Evaluated.ensures.value c.step_kept.ensures kept c.as_slice-in-Evaluated-2.result.now c.as_slice-in-Evaluated-3.result.now c.as_mut_slice-in-Evaluated.result.now c.step_others.new.others (with_items flat.others c.step_others.new.others).items places_are c.as_slice-in-Evaluated-3.ensures.value c.as_mut_slice-in-Evaluated.ensures.value c.step_others.ensures others;
      values = is.values;
      programs_are = is.programs_are;
      fit = edge_fit flat is c.in-Evaluated.is c.as_slice.result.now c.as_slice-in-Evaluated.result.now c.step_kept.new.kept (with_items flat.kept c.step_kept.new.kept).items next_are c.as_slice-in-Evaluated.ensures.value c.step_kept.ensures kept c.as_slice-in-Evaluated-2.result.now c.as_slice-in-Evaluated-3.result.now c.as_mut_slice-in-Evaluated.result.now c.step_others.new.others (with_items flat.others c.step_others.new.others).items places_are c.as_slice-in-Evaluated-3.ensures.value c.as_mut_slice-in-Evaluated.ensures.value c.step_others.ensures others;
      room = is.room;
      evaluated = tt;
    }

pub returns-in-Evaluated-clause-evaluated : goal.returns-in-Evaluated-clause-evaluated
returns-in-Evaluated-clause-evaluated c =
    let flat = c.self.inside in
    let is = c.self.invariant in
    let next_are : c.as_slice.result.now ≡ (current_program flat).next.items = c.as_slice.ensures.value ∙ ap (λ (p : Program). p.next.items) c.at-program.ensures in
    let places_are : c.as_slice-in-Evaluated-2.result.now ≡ (current_program flat).places.items = c.as_slice-in-Evaluated-2.ensures.value ∙ ap (λ (p : Program). p.places.items) c.at-program.ensures in
    let kept = with_items_is flat.kept c.step_kept.new.kept (omega (arith, c.step_kept.auto.kept, ap length c.as_mut_slice.ensures.value, flat.kept.ok.0)) in
    let others = with_items_is flat.others c.step_others.new.others (omega (arith, c.step_others.ensures.all, ap length c.as_mut_slice-in-Evaluated.ensures.value, flat.others.ok.0)) in
    let new : SimValue = record { net = flat.net.now; states = states_from flat.kinds.items (with_items flat.kept c.step_kept.new.kept).items (with_items flat.others c.step_others.new.others).items; values = values_from (current_program flat) flat.slots.items; phase = Stepped } in
    let edge : IsEdgeOfSim (flat_value flat) new = edge_sim flat is c.in-Evaluated.is c.as_slice.result.now c.as_slice-in-Evaluated.result.now c.step_kept.new.kept (with_items flat.kept c.step_kept.new.kept).items next_are c.as_slice-in-Evaluated.ensures.value c.step_kept.ensures kept c.as_slice-in-Evaluated-2.result.now c.as_slice-in-Evaluated-3.result.now c.as_mut_slice-in-Evaluated.result.now c.step_others.new.others (with_items flat.others c.step_others.new.others).items places_are c.as_slice-in-Evaluated-3.ensures.value c.as_mut_slice-in-Evaluated.ensures.value c.step_others.ensures others in
    subst (λ (o : SimValue). IfEvaluated o.phase (IsEdgeOfSim o new)) c.self.view_is (if_evaluated flat.phase (IsEdgeOfSim (flat_value flat) new) edge)
