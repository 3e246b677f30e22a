use Rattle.std.proofs.Common.{sym, subst, arith}
use Rattle.net_core.specs.Netlist.{netlist_of}
use Rattle.net_sim.specs.Shown.{HasWord, HasWordWidth}
use Rattle.net_sim.specs.Sim.{SimValue, IsWordOfSim}
use Rattle.net_row.proofs.FlatSimLemmas.{has_shown_in, found_in, within_in, read_in, place_fits, word_is, width_is}
use Rattle.net_row.specs.Flats.{current_program}
use Rattle.net_row.proofs.flat.Flat.word.Goals as goal

pub shown_number-number-requires : goal.shown_number-number-requires
shown_number-number-requires c =
    let flat = c.self.inside in
    let has = subst (λ (o : SimValue). HasWord (netlist_of o.net) c.args.mem c.args.at) (sym c.self.view_is) c.requires in
    has_shown_in flat c.self.invariant c.args.mem 0 c.as_slice.result.now c.as_slice-2.result.now c.as_slice.ensures.value c.as_slice-2.ensures.value has.memory

pub index-requires : goal.index-requires
index-requires c =
    let flat = c.self.inside in
    let has = subst (λ (o : SimValue). HasWord (netlist_of o.net) c.args.mem c.args.at) (sym c.self.view_is) c.requires in
    let within = within_in flat c.self.invariant c.args.mem c.shown_number-number.result c.as_slice.result.now c.as_slice-2.result.now c.as_slice.ensures.value c.as_slice-2.ensures.value has.memory c.shown_number-number.ensures in
    omega (arith, within, flat.others.ok.0)

pub word-requires : goal.word-requires
word-requires c =
    let flat = c.self.inside in
    let is = c.self.invariant in
    let number = c.shown_number-number.result in
    let has = subst (λ (o : SimValue). HasWord (netlist_of o.net) c.args.mem c.args.at) (sym c.self.view_is) c.requires in
    let found = found_in flat is c.args.mem number c.as_slice.result.now c.as_slice-2.result.now c.as_slice.ensures.value c.as_slice-2.ensures.value has.memory c.shown_number-number.ensures in
    let here = read_in flat is c.args.mem number c.as_slice.result.now c.as_slice-2.result.now c.as_slice.ensures.value c.as_slice-2.ensures.value has.memory c.shown_number-number.ensures c.index.result.now c.index.ensures in
    place_fits flat.net.now flat.table.now flat.kinds.items (current_program flat) flat.shown.items is.built flat.others.items flat.kept.items flat.slots.items is.are c.args.mem number c.args.at c.index.result.now has found here

pub returns-clause-value : goal.returns-clause-value
returns-clause-value c =
    let flat = c.self.inside in
    let is = c.self.invariant in
    let number = c.shown_number-number.result in
    let has = subst (λ (o : SimValue). HasWord (netlist_of o.net) c.args.mem c.args.at) (sym c.self.view_is) c.requires in
    let found = found_in flat is c.args.mem number c.as_slice.result.now c.as_slice-2.result.now c.as_slice.ensures.value c.as_slice-2.ensures.value has.memory c.shown_number-number.ensures in
    let here = read_in flat is c.args.mem number c.as_slice.result.now c.as_slice-2.result.now c.as_slice.ensures.value c.as_slice-2.ensures.value has.memory c.shown_number-number.ensures c.index.result.now c.index.ensures in
    subst (λ (o : SimValue). IsWordOfSim o c.args.mem c.args.at c.word.result.value) c.self.view_is
    (word_is flat.net.now flat.table.now flat.kinds.items (current_program flat) flat.shown.items is.built flat.others.items flat.kept.items flat.slots.items is.are c.args.mem number c.args.at c.word.result.value c.index.result.now has.memory found here c.word.ensures.value flat.phase)

pub returns-clause-width : goal.returns-clause-width
returns-clause-width c =
    let flat = c.self.inside in
    let is = c.self.invariant in
    let number = c.shown_number-number.result in
    let has = subst (λ (o : SimValue). HasWord (netlist_of o.net) c.args.mem c.args.at) (sym c.self.view_is) c.requires in
    let found = found_in flat is c.args.mem number c.as_slice.result.now c.as_slice-2.result.now c.as_slice.ensures.value c.as_slice-2.ensures.value has.memory c.shown_number-number.ensures in
    let here = read_in flat is c.args.mem number c.as_slice.result.now c.as_slice-2.result.now c.as_slice.ensures.value c.as_slice-2.ensures.value has.memory c.shown_number-number.ensures c.index.result.now c.index.ensures in
    subst (λ (o : SimValue). HasWordWidth (netlist_of o.net) c.args.mem c.word.result.width) c.self.view_is
    (width_is flat.net.now flat.table.now flat.kinds.items (current_program flat) flat.shown.items is.built flat.others.items flat.kept.items flat.slots.items is.are c.args.mem number c.word.result.width c.index.result.now has.memory found here c.word.ensures.width)
