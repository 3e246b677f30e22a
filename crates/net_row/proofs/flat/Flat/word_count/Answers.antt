use Rattle.std.proofs.Common.{◌<◌, length, sym, subst, arith}
use Rattle.net_core.specs.Netlist.{netlist_of}
use Rattle.net_sim.specs.Shown.{shown_cells}
use Rattle.net_sim.specs.Sim.{SimValue, IsWordCountOfSim}
use Rattle.net_row.proofs.FlatSimLemmas.{has_shown_in, found_in, within_in, read_in, count_is}
use Rattle.net_row.specs.Flats.{current_program}
use Rattle.net_row.proofs.flat.Flat.word_count.Goals as goal

pub shown_number-number-requires : goal.shown_number-number-requires
shown_number-number-requires c =
    let flat = c.self.inside in
    let lt = subst (λ (o : SimValue). c.args.mem < length (shown_cells (netlist_of o.net))) (sym c.self.view_is) c.requires in
    has_shown_in flat c.self.invariant c.args.mem 0 c.as_slice.result.now c.as_slice-2.result.now c.as_slice.ensures.value c.as_slice-2.ensures.value lt

pub index-requires : goal.index-requires
index-requires c =
    let flat = c.self.inside in
    let lt = subst (λ (o : SimValue). c.args.mem < length (shown_cells (netlist_of o.net))) (sym c.self.view_is) c.requires in
    let within = within_in flat c.self.invariant c.args.mem c.shown_number-number.result c.as_slice.result.now c.as_slice-2.result.now c.as_slice.ensures.value c.as_slice-2.ensures.value lt c.shown_number-number.ensures in
    omega (arith, within, flat.others.ok.0)

pub returns : goal.returns
returns c =
    let flat = c.self.inside in
    let is = c.self.invariant in
    let number = c.shown_number-number.result in
    let lt = subst (λ (o : SimValue). c.args.mem < length (shown_cells (netlist_of o.net))) (sym c.self.view_is) c.requires in
    let found = found_in flat is c.args.mem number c.as_slice.result.now c.as_slice-2.result.now c.as_slice.ensures.value c.as_slice-2.ensures.value lt c.shown_number-number.ensures in
    let here = read_in flat is c.args.mem number c.as_slice.result.now c.as_slice-2.result.now c.as_slice.ensures.value c.as_slice-2.ensures.value lt c.shown_number-number.ensures c.index.result.now c.index.ensures in
    subst (λ (o : SimValue). IsWordCountOfSim o c.args.mem c.word_count.result) c.self.view_is
    (count_is flat.net.now flat.table.now flat.kinds.items (current_program flat) flat.shown.items is.built flat.others.items flat.kept.items flat.slots.items is.are c.args.mem number c.word_count.result c.index.result.now lt found here c.word_count.ensures.prim c.word_count.ensures.state flat.phase)
