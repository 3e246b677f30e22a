use Rattle.std.proofs.Common.{◌≡◌, ◌∙◌, ◌+◌, List, length, ap, sym, arith, subst, ◌<◌, ◌^◌}
use Rattle.std.specs.Prelude.{slice_get}
use Rattle.std.specs.Vec.{with_items}
use Rattle.std.proofs.lemmas.List.{with_items_is}
use Rattle.net_core.specs.Netlist.{netlist_of}
use Rattle.net_sim.specs.Shown.{HasWord, HasWordWidth}
use Rattle.net_sim.specs.Sim.{SimValue, IsLoadOfSim, IfEvaluated}
use Rattle.net_sim.specs.declared.sim.Phase.{Phase}
use Rattle.net_sim.specs.declared.sim.Phase.TheVariants.{Fresh}
use Rattle.net_steps.specs.declared.other.Other.{Other as OtherCell}
use Rattle.net_row.proofs.FlatOtherLemmas.{all_fit_like, like_loaded}
use Rattle.net_row.proofs.FlatSimLemmas.{has_shown_in, found_in, within_in, place_fits, word_fits, load_keeps, load_of_sim}
use Rattle.net_row.specs.Flats.{current_program, flat_value, states_from, values_from, AreKept, IsAfterRow, IsLoadedOther}
use Rattle.net_row.specs.Kinds.{kept_in}
use Rattle.net_row.specs.Programs.{AreFit}
use Rattle.net_row.proofs.flat.Flat.load.Goals as goal

pub shown_number-number-requires : goal.shown_number-number-requires
shown_number-number-requires c =
    let flat = c.self.inside in
    let has = subst (λ (o : SimValue). HasWord (netlist_of o.net) c.args.mem c.args.at) (sym c.self.view_is) c.requires.place in
    has_shown_in flat c.self.invariant c.args.mem 0 c.as_slice.result.now c.as_slice-2.result.now c.as_slice.ensures.value c.as_slice-2.ensures.value has.memory

pub load_other-requires-clause-number : goal.load_other-requires-clause-number
load_other-requires-clause-number c =
    let flat = c.self.inside in
    let has = subst (λ (o : SimValue). HasWord (netlist_of o.net) c.args.mem c.args.at) (sym c.self.view_is) c.requires.place in
    let within = within_in flat c.self.invariant c.args.mem c.shown_number-number.result c.as_slice.result.now c.as_slice-2.result.now c.as_slice.ensures.value c.as_slice-2.ensures.value has.memory c.shown_number-number.ensures in
    omega (arith, within, ap length c.as_mut_slice.ensures.value)

pub load_other-requires-clause-at : goal.load_other-requires-clause-at
load_other-requires-clause-at c = λ other here.
    let flat = c.self.inside in
    let is = c.self.invariant in
    let number = c.shown_number-number.result in
    let has = subst (λ (o : SimValue). HasWord (netlist_of o.net) c.args.mem c.args.at) (sym c.self.view_is) c.requires.place in
    let found = found_in flat is c.args.mem number c.as_slice.result.now c.as_slice-2.result.now c.as_slice.ensures.value c.as_slice-2.ensures.value has.memory c.shown_number-number.ensures in
    place_fits flat.net.now flat.table.now flat.kinds.items (current_program flat) flat.shown.items is.built flat.others.items flat.kept.items flat.slots.items is.are c.args.mem number c.args.at other has found (ap (λ (l : List OtherCell). slice_get l number) (sym c.as_mut_slice.ensures.value) ∙ here)

pub load_other-requires-clause-width : goal.load_other-requires-clause-width
load_other-requires-clause-width c = λ other here.
    let flat = c.self.inside in
    let is = c.self.invariant in
    let number = c.shown_number-number.result in
    let has = subst (λ (o : SimValue). HasWord (netlist_of o.net) c.args.mem c.args.at) (sym c.self.view_is) c.requires.place in
    let width = subst (λ (o : SimValue). HasWordWidth (netlist_of o.net) c.args.mem c.args.word.width) (sym c.self.view_is) c.requires.width in
    let found = found_in flat is c.args.mem number c.as_slice.result.now c.as_slice-2.result.now c.as_slice.ensures.value c.as_slice-2.ensures.value has.memory c.shown_number-number.ensures in
    word_fits flat.net.now flat.table.now flat.kinds.items (current_program flat) flat.shown.items is.built flat.others.items flat.kept.items flat.slots.items is.are c.args.mem number c.args.at c.args.word.width other has width found (ap (λ (l : List OtherCell). slice_get l number) (sym c.as_mut_slice.ensures.value) ∙ here)

pub invariant_of-self : goal.invariant_of-self
invariant_of-self c =
    let flat = c.self.inside in
    let is = c.self.invariant in
    let n = netlist_of flat.net.now in
    let number = c.shown_number-number.result in
    let has = subst (λ (o : SimValue). HasWord (netlist_of o.net) c.args.mem c.args.at) (sym c.self.view_is) c.requires.place in
    let width = subst (λ (o : SimValue). HasWordWidth (netlist_of o.net) c.args.mem c.args.word.width) (sym c.self.view_is) c.requires.width in
    let found = found_in flat is c.args.mem number c.as_slice.result.now c.as_slice-2.result.now c.as_slice.ensures.value c.as_slice-2.ensures.value has.memory c.shown_number-number.ensures in
    let more : IsLoadedOther number c.args.at c.args.word.value flat.others.items c.load_other.new.others = subst (λ (l : List OtherCell). IsLoadedOther number c.args.at c.args.word.value l c.load_other.new.others) c.as_mut_slice.ensures.value c.load_other.ensures in
    let kept = with_items_is flat.others c.load_other.new.others (omega (arith, more.all, flat.others.ok.0)) in
    let are = load_keeps flat.net.now flat.table.now flat.kinds.items (current_program flat) flat.shown.items is.built flat.others.items flat.kept.items flat.slots.items is.are c.args.mem number c.args.at c.args.word.value c.load_other.new.others has found (λ name prim it. subst (λ w. c.args.word.value < 2 ^ w) (width name prim it) c.args.word.fits) more in
    let fresh : flat.phase ≡ Fresh = ap (λ (o : SimValue). o.phase) c.self.view_is ∙ c.requires.fresh in
    record {
      built = is.built;
      are = subst (λ (l : List OtherCell). AreKept n is.built.cells flat.kinds.items (current_program flat) l flat.kept.items flat.slots.items) (sym kept) are;
      values = is.values;
      programs_are = is.programs_are;
      fit = subst (λ (l : List OtherCell). AreFit (kept_in is.built.cells + length n.ins) l flat.programs) (sym kept) (all_fit_like flat.others.items c.load_other.new.others (like_loaded number c.args.at c.args.word.value flat.others.items c.load_other.new.others more) (kept_in is.built.cells + length n.ins) flat.programs is.fit);
      room = is.room;
      evaluated = subst (λ (p : Phase). IfEvaluated p (IsAfterRow n is.built.cells (current_program flat) (with_items flat.others c.load_other.new.others).items flat.kept.items flat.slots.items)) (sym fresh) tt;
    }

pub returns : goal.returns
returns c =
    let flat = c.self.inside in
    let is = c.self.invariant in
    let number = c.shown_number-number.result in
    let has = subst (λ (o : SimValue). HasWord (netlist_of o.net) c.args.mem c.args.at) (sym c.self.view_is) c.requires.place in
    let width = subst (λ (o : SimValue). HasWordWidth (netlist_of o.net) c.args.mem c.args.word.width) (sym c.self.view_is) c.requires.width in
    let found = found_in flat is c.args.mem number c.as_slice.result.now c.as_slice-2.result.now c.as_slice.ensures.value c.as_slice-2.ensures.value has.memory c.shown_number-number.ensures in
    let more : IsLoadedOther number c.args.at c.args.word.value flat.others.items c.load_other.new.others = subst (λ (l : List OtherCell). IsLoadedOther number c.args.at c.args.word.value l c.load_other.new.others) c.as_mut_slice.ensures.value c.load_other.ensures in
    let kept = with_items_is flat.others c.load_other.new.others (omega (arith, more.all, flat.others.ok.0)) in
    let new = λ (l : List OtherCell). let v : SimValue = record { net = flat.net.now; states = states_from flat.kinds.items flat.kept.items l; values = values_from (current_program flat) flat.slots.items; phase = flat.phase } in v in
    let load = load_of_sim flat.net.now flat.table.now flat.kinds.items (current_program flat) flat.shown.items is.built flat.others.items flat.kept.items flat.slots.items is.are c.args.mem number c.args.at c.args.word.value c.load_other.new.others has found (λ name prim it. subst (λ w. c.args.word.value < 2 ^ w) (width name prim it) c.args.word.fits) more flat.phase in
    subst (λ (o : SimValue). IsLoadOfSim o c.args.mem c.args.at c.args.word.value (new (with_items flat.others c.load_other.new.others).items)) c.self.view_is
    (subst (λ (l : List OtherCell). IsLoadOfSim (flat_value flat) c.args.mem c.args.at c.args.word.value (new l)) (sym kept) load)
