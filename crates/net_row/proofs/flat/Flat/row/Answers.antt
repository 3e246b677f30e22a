use Rattle.std.proofs.Common.{◌≡◌, ◌+◌, ◌<◌, ◌∙◌, All, List, length, ap, map, sym, arith, subst, None, Some, Ok, Err, Result, Option, ℕ}
use Rattle.std.specs.Vec.{with_items}
use Rattle.std.proofs.lemmas.List.{with_items_is, length-map}
use Rattle.hw_bits.specs.Values.{values_of, widths_of}
use Rattle.hw_bits.specs.declared.bits.Bits.{Bits}
use Rattle.hw_prims.specs.Table.{Pin}
use Rattle.net_core.specs.Netlist.{netlist_of}
use Rattle.net_sim.proofs.SimLemmas.{if_running, if_not_stopped}
use Rattle.net_sim.specs.Sim.{SimValue, IfRunning, IfStopped, IsRowOfSim}
use Rattle.net_sim.specs.declared.sim.Conflict.{Conflict}
use Rattle.net_sim.specs.declared.sim.Phase.TheVariants.{Evaluated, Stopped}
use Rattle.net_steps.specs.Conflicts.{IsLeastClash}
use Rattle.net_steps.specs.Others.{AreNarrow}
use Rattle.net_steps.specs.declared.clashes.Clash.{Clash}
use Rattle.net_steps.specs.declared.other.Other.{Other as OtherCell}
use Rattle.net_row.proofs.FlatSimLemmas.{inputs_count, inputs_narrow, others_narrow, built_at, clashes_at, row_holds, row_fitting, row_after, row_sim}
use Rattle.net_row.specs.Flats.{current_program, flat_value, states_from, values_from}
use Rattle.net_row.specs.Kinds.{kept_in}
use Rattle.net_row.specs.Programs.{AreFit, program_at}
use Rattle.net_row.specs.declared.program.Program.{Program}
use Rattle.net_row.proofs.flat.Flat.row.Goals as goal

pub fill-self-inside-requires : goal.fill-self-inside-requires
fill-self-inside-requires c =
    let flat = c.self.inside in
    let is = c.self.invariant in
    let widths = subst (λ (o : SimValue). widths_of c.args.inputs.now ≡ map (λ (p : Pin). p.width) (netlist_of o.net).ins) (sym c.self.view_is) c.requires in
    let count = inputs_count flat.net.now flat.table.now flat.kinds.items (current_program flat) flat.shown.items is.built c.args.inputs.now widths in
    let listed = length-map c.args.inputs.now (λ (b : Bits). b.value) in
    let base : length c.as_slice-2.result.now + length c.args.inputs.now ≡ kept_in is.built.cells + length (netlist_of flat.net.now).ins = omega (arith, ap length c.as_slice-2.ensures.value, is.are.kept_all, count, listed) in
    record {
      room = is.room ∙ sym (ap length c.as_mut_slice.ensures.value);
      opening = omega (arith, base, is.fit.opening_within, is.room, ap length c.as_mut_slice.ensures.value);
      inputs = inputs_narrow flat.net.now flat.table.now flat.kinds.items (current_program flat) flat.shown.items is.built c.args.inputs.now widths;
      fit = subst (λ (os : List OtherCell). AreFit (length c.as_slice-2.result.now + length c.args.inputs.now) os flat.programs) (sym c.as_slice.ensures.value) (subst (λ b. AreFit b flat.others.items flat.programs) (sym base) is.fit);
      others = subst AreNarrow (sym c.as_slice.ensures.value) (others_narrow flat.net.now flat.table.now flat.kinds.items (current_program flat) flat.shown.items is.built flat.others.items flat.kept.items flat.slots.items is.are);
    }

pub find_conflict-requires : goal.find_conflict-requires
find_conflict-requires c =
    let flat = c.self.inside in
    let is = c.self.invariant in
    let place = c.fill-self-inside.result in
    let slots = c.as_slice-4.result.now in
    let room : length c.fill-self-inside.new.slots ≡ length flat.slots.items = omega (arith, c.fill-self-inside.auto.slots, ap length c.as_mut_slice.ensures.value) in
    let kept = with_items_is flat.slots c.fill-self-inside.new.slots (omega (arith, room, flat.slots.ok.0)) in
    let clashes_are : c.as_slice-3.result.now ≡ (program_at flat.programs place).clashes.items = c.as_slice-3.ensures.value ∙ ap (λ (p : Program). p.clashes.items) c.at.ensures in
    subst (λ (cs : List Clash). All (λ (clash : Clash). (clash.first < length slots) × (clash.second < length slots) × (clash.port < length flat.table.now.names)) cs) (sym clashes_are)
    (clashes_at flat is place slots (ap length (c.as_slice-4.ensures.value ∙ kept) ∙ room))

pub invariant_of-self : goal.invariant_of-self
invariant_of-self c =
    let flat = c.self.inside in
    let is = c.self.invariant in
    let widths = subst (λ (o : SimValue). widths_of c.args.inputs.now ≡ map (λ (p : Pin). p.width) (netlist_of o.net).ins) (sym c.self.view_is) c.requires in
    let room : length c.fill-self-inside.new.slots ≡ length flat.slots.items = omega (arith, c.fill-self-inside.auto.slots, ap length c.as_mut_slice.ensures.value) in
    let kept = with_items_is flat.slots c.fill-self-inside.new.slots (omega (arith, room, flat.slots.ok.0)) in
    record {
      built = built_at flat is c.fill-self-inside.result;
      are = row_holds flat is c.fill-self-inside.result c.args.inputs.now widths c.as_slice.result.now c.as_slice-2.result.now c.fill-self-inside.new.slots (with_items flat.slots c.fill-self-inside.new.slots).items c.as_slice.ensures.value c.as_slice-2.ensures.value c.fill-self-inside.ensures.opened c.fill-self-inside.ensures.made room kept;
      values = row_fitting flat is c.fill-self-inside.result c.args.inputs.now widths c.as_slice.result.now c.as_slice-2.result.now c.fill-self-inside.new.slots (with_items flat.slots c.fill-self-inside.new.slots).items c.as_slice.ensures.value c.as_slice-2.ensures.value c.fill-self-inside.ensures.opened c.fill-self-inside.ensures.made room kept;
      programs_are = is.programs_are;
      fit = is.fit;
      room = is.room ∙ sym room ∙ ap length (sym kept);
      evaluated = row_after flat is c.fill-self-inside.result c.args.inputs.now widths c.as_slice.result.now c.as_slice-2.result.now c.fill-self-inside.new.slots (with_items flat.slots c.fill-self-inside.new.slots).items c.as_slice.ensures.value c.as_slice-2.ensures.value c.fill-self-inside.ensures.opened c.fill-self-inside.ensures.made room kept;
    }

pub invariant_of-self-in-Some : goal.invariant_of-self-in-Some
invariant_of-self-in-Some c =
    let flat = c.self.inside in
    let is = c.self.invariant in
    let widths = subst (λ (o : SimValue). widths_of c.args.inputs.now ≡ map (λ (p : Pin). p.width) (netlist_of o.net).ins) (sym c.self.view_is) c.requires in
    let room : length c.fill-self-inside.new.slots ≡ length flat.slots.items = omega (arith, c.fill-self-inside.auto.slots, ap length c.as_mut_slice.ensures.value) in
    let kept = with_items_is flat.slots c.fill-self-inside.new.slots (omega (arith, room, flat.slots.ok.0)) in
    record {
      built = built_at flat is c.fill-self-inside.result;
      are = row_holds flat is c.fill-self-inside.result c.args.inputs.now widths c.as_slice.result.now c.as_slice-2.result.now c.fill-self-inside.new.slots (with_items flat.slots c.fill-self-inside.new.slots).items c.as_slice.ensures.value c.as_slice-2.ensures.value c.fill-self-inside.ensures.opened c.fill-self-inside.ensures.made room kept;
      values = row_fitting flat is c.fill-self-inside.result c.args.inputs.now widths c.as_slice.result.now c.as_slice-2.result.now c.fill-self-inside.new.slots (with_items flat.slots c.fill-self-inside.new.slots).items c.as_slice.ensures.value c.as_slice-2.ensures.value c.fill-self-inside.ensures.opened c.fill-self-inside.ensures.made room kept;
      programs_are = is.programs_are;
      fit = is.fit;
      room = is.room ∙ sym room ∙ ap length (sym kept);
      evaluated = tt;
    }

pub returns-in-None : goal.returns-in-None
returns-in-None c =
    let flat = c.self.inside in
    let is = c.self.invariant in
    let found : Option ℕ = None in
    let new : SimValue = record { net = flat.net.now; states = states_from flat.kinds.items flat.kept.items flat.others.items; values = values_from (program_at flat.programs c.fill-self-inside.result) (with_items flat.slots c.fill-self-inside.new.slots).items; phase = Evaluated } in
    let widths = subst (λ (o : SimValue). widths_of c.args.inputs.now ≡ map (λ (p : Pin). p.width) (netlist_of o.net).ins) (sym c.self.view_is) c.requires in
    let room : length c.fill-self-inside.new.slots ≡ length flat.slots.items = omega (arith, c.fill-self-inside.auto.slots, ap length c.as_mut_slice.ensures.value) in
    let kept = with_items_is flat.slots c.fill-self-inside.new.slots (omega (arith, room, flat.slots.ok.0)) in
    let least : IsLeastClash flat.table.now.names (program_at flat.programs c.fill-self-inside.result).clashes.items (with_items flat.slots c.fill-self-inside.new.slots).items found =
    subst (λ (cs : List Clash). IsLeastClash flat.table.now.names cs (with_items flat.slots c.fill-self-inside.new.slots).items found) (c.as_slice-3.ensures.value ∙ ap (λ (p : Program). p.clashes.items) c.at.ensures)
    (subst (λ s. IsLeastClash flat.table.now.names c.as_slice-3.result.now s found) c.as_slice-4.ensures.value
    (subst (IsLeastClash flat.table.now.names c.as_slice-3.result.now c.as_slice-4.result.now) c.in-None.is c.find_conflict.ensures)) in
    let row : IsRowOfSim (flat_value flat) (values_of c.args.inputs.now) new None = row_sim flat is c.fill-self-inside.result c.args.inputs.now widths c.as_slice.result.now c.as_slice-2.result.now c.fill-self-inside.new.slots (with_items flat.slots c.fill-self-inside.new.slots).items c.as_slice.ensures.value c.as_slice-2.ensures.value c.fill-self-inside.ensures.opened c.fill-self-inside.ensures.made room kept None least in
    record {
      running = subst (λ (o : SimValue). IfRunning o.phase (IsRowOfSim o (values_of c.args.inputs.now) new None)) c.self.view_is (if_running flat.phase (IsRowOfSim (flat_value flat) (values_of c.args.inputs.now) new None) row);
      stopped = subst (λ (o : SimValue). IfStopped o.phase (λ port. (new ≡ o) × (let r : Result (Unit {0}) Conflict = Ok tt in let e : Result (Unit {0}) Conflict = Err (record { port = port }) in r ≡ e))) c.self.view_is (if_not_stopped flat.phase _ c.in_default.not-Stopped);
    }

pub returns-in-Some : goal.returns-in-Some
returns-in-Some c =
    let flat = c.self.inside in
    let is = c.self.invariant in
    let found : Option ℕ = Some c.in-Some.port in
    let new : SimValue = record { net = flat.net.now; states = states_from flat.kinds.items flat.kept.items flat.others.items; values = values_from (program_at flat.programs c.fill-self-inside.result) (with_items flat.slots c.fill-self-inside.new.slots).items; phase = Stopped c.in-Some.port } in
    let widths = subst (λ (o : SimValue). widths_of c.args.inputs.now ≡ map (λ (p : Pin). p.width) (netlist_of o.net).ins) (sym c.self.view_is) c.requires in
    let room : length c.fill-self-inside.new.slots ≡ length flat.slots.items = omega (arith, c.fill-self-inside.auto.slots, ap length c.as_mut_slice.ensures.value) in
    let kept = with_items_is flat.slots c.fill-self-inside.new.slots (omega (arith, room, flat.slots.ok.0)) in
    let least : IsLeastClash flat.table.now.names (program_at flat.programs c.fill-self-inside.result).clashes.items (with_items flat.slots c.fill-self-inside.new.slots).items found =
    subst (λ (cs : List Clash). IsLeastClash flat.table.now.names cs (with_items flat.slots c.fill-self-inside.new.slots).items found) (c.as_slice-3.ensures.value ∙ ap (λ (p : Program). p.clashes.items) c.at.ensures)
    (subst (λ s. IsLeastClash flat.table.now.names c.as_slice-3.result.now s found) c.as_slice-4.ensures.value
    (subst (IsLeastClash flat.table.now.names c.as_slice-3.result.now c.as_slice-4.result.now) c.in-Some.is c.find_conflict.ensures)) in
    let row : IsRowOfSim (flat_value flat) (values_of c.args.inputs.now) new (Some c.in-Some.port) = row_sim flat is c.fill-self-inside.result c.args.inputs.now widths c.as_slice.result.now c.as_slice-2.result.now c.fill-self-inside.new.slots (with_items flat.slots c.fill-self-inside.new.slots).items c.as_slice.ensures.value c.as_slice-2.ensures.value c.fill-self-inside.ensures.opened c.fill-self-inside.ensures.made room kept (Some c.in-Some.port) least in
    record {
      running = subst (λ (o : SimValue). IfRunning o.phase (IsRowOfSim o (values_of c.args.inputs.now) new (Some c.in-Some.port))) c.self.view_is (if_running flat.phase (IsRowOfSim (flat_value flat) (values_of c.args.inputs.now) new (Some c.in-Some.port)) row);
      stopped = subst (λ (o : SimValue). IfStopped o.phase (λ port. (new ≡ o) × (let r : Result (Unit {0}) Conflict = Err (record { port = c.in-Some.port }) in let e : Result (Unit {0}) Conflict = Err (record { port = port }) in r ≡ e))) c.self.view_is (if_not_stopped flat.phase _ c.in_default.not-Stopped);
    }
