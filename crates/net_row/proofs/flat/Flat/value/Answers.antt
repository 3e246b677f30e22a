use Rattle.std.proofs.Common.{◌≡◌, ◌<◌, ◌∙◌, length, get_or, sym, ap, arith, refl, subst, Some}
use Rattle.std.specs.Prelude.{slice_get, slice_index}
use Rattle.std.proofs.lemmas.List.{length-map}
use Rattle.std.proofs.lemmas.Option.{slice_get_read, get_or_from_slice_get}
use Rattle.hw_bits.specs.Width.{low_bits}
use Rattle.net_core.specs.Netlist.{netlist_of}
use Rattle.net_sim.specs.Layout.{port_widths}
use Rattle.net_sim.specs.Sim.{SimValue}
use Rattle.net_row.proofs.FlatSimLemmas.{slot_within, width_in, width_wide, value_in}
use Rattle.net_row.specs.Flats.{current_program}
use Rattle.net_row.specs.declared.program.Program.{Program}
use Rattle.net_row.proofs.flat.Flat.value.Goals as goal

pub wrap-requires-clause-wide : goal.wrap-requires-clause-wide
wrap-requires-clause-wide c =
    let flat = c.self.inside in
    let lt : c.args.port < length (current_program flat).ports.items = omega (arith, c.requires, ap (λ (o : SimValue). length o.values) c.self.view_is, length-map (current_program flat).ports.items (slice_index flat.slots.items)) in
    (width_wide flat c.self.invariant c.args.port lt c.index-3.result.now c.index-3.ensures).0

pub wrap-requires-clause-narrow : goal.wrap-requires-clause-narrow
wrap-requires-clause-narrow c =
    let flat = c.self.inside in
    let lt : c.args.port < length (current_program flat).ports.items = omega (arith, c.requires, ap (λ (o : SimValue). length o.values) c.self.view_is, length-map (current_program flat).ports.items (slice_index flat.slots.items)) in
    let wide = width_wide flat c.self.invariant c.args.port lt c.index-3.result.now c.index-3.ensures in
    omega (arith, wide.1)

pub returns-clause-value : goal.returns-clause-value
returns-clause-value c =
    let flat = c.self.inside in
    let is = c.self.invariant in
    let port = c.args.port in
    let ports = (current_program flat).ports.items in
    let slots = flat.slots.items in
    let slot = c.index.result.now in
    let info = c.index-3.result.now in
    let lt : c.args.port < length (current_program flat).ports.items = omega (arith, c.requires, ap (λ (o : SimValue). length o.values) c.self.view_is, length-map (current_program flat).ports.items (slice_index flat.slots.items)) in
    let read = subst (λ (p : Program). slot ≡ get_or p.ports.items port slot) c.at.ensures c.index.ensures in
    let same : get_or ports port 0 ≡ slot = get_or_from_slice_get ports port slot 0 (slice_get_read ports (length ports) port slot refl lt read) in
    let within : slot < length slots = omega (arith, same, slot_within flat is port lt) in
    let there : slice_index slots slot ≡ c.index-2.result.now = get_or_from_slice_get slots slot c.index-2.result.now 0 (slice_get_read slots (length slots) slot c.index-2.result.now refl within c.index-2.ensures) in
    let made : c.wrap.result.value ≡ low_bits info.width (slice_index slots (get_or ports port 0)) = c.wrap.ensures.value ∙ ap (low_bits info.width) (sym (ap (slice_index slots) same ∙ there)) in
    subst (λ (o : SimValue). slice_get o.values c.args.port ≡ Some c.wrap.result.value) c.self.view_is (value_in flat is port lt info c.index-3.ensures ∙ ap Some (sym made))

pub returns-clause-width : goal.returns-clause-width
returns-clause-width c =
    let flat = c.self.inside in
    let lt : c.args.port < length (current_program flat).ports.items = omega (arith, c.requires, ap (λ (o : SimValue). length o.values) c.self.view_is, length-map (current_program flat).ports.items (slice_index flat.slots.items)) in
    subst (λ (o : SimValue). slice_get (port_widths (netlist_of o.net)) c.args.port ≡ Some c.wrap.result.width) c.self.view_is (width_in flat c.self.invariant c.args.port lt c.index-3.result.now c.index-3.ensures ∙ ap Some (sym c.wrap.ensures.width))
