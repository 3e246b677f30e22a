use Rattle.std.proofs.Common.{◌≡◌, ◌<◌, [], length, map, slice_get, Some, Bor, not, ap, sym, ◌∙◌, arith}
use Rattle.hw_names.specs.Name.{Text}
use Rattle.net_core.specs.PortList.{full_names, port_line}
use Rattle.net_core.specs.Rules.{port_names}
use Rattle.net_core.proofs.CellLemmas.{full_name_at, are_new-more, are_new-stop}
use Rattle.net_core.proofs.PortListLemmas.{found_among}
use Rattle.net_core.proofs.cells.are_new_pins.Goals as goal

abbrev no_text : Bor Text
no_text = record { ref_ptr = (0, 0); now = [] }

pub returns-then-is_some : goal.returns-then-is_some
returns-then-is_some c =
    let names = port_names c.args.ports.now in
    let more = full_names c.args.cell.now (map (λ (p : Bor Text). p.now) c.args.pins.now) in
    let name = c.as_slice.result.now in
    let within : c.loop-pin.pin-index < length c.args.pins.now = omega arith in
    let at : slice_get more c.loop-pin.pin-index ≡ Some name =
    full_name_at c.args.cell.now c.args.pins.now c.loop-pin.pin-index no_text within ∙ ap Some (sym (c.as_slice.ensures.value ∙ c.in_ok-join.ensures)) in
    let there = sym (found_among c.args.ports.now name (port_line name) c.find.result c.find.ensures) ∙ sym c.if-is_some.ensures in
    sym (are_new-stop names more c.loop-pin.pin-index name at (ap not there))

pub loop-pin-preserved : goal.loop-pin-preserved
loop-pin-preserved c =
    let names = port_names c.args.ports.now in
    let more = full_names c.args.cell.now (map (λ (p : Bor Text). p.now) c.args.pins.now) in
    let name = c.as_slice.result.now in
    let within : c.loop-pin.pin-index < length c.args.pins.now = omega arith in
    let at : slice_get more c.loop-pin.pin-index ≡ Some name =
    full_name_at c.args.cell.now c.args.pins.now c.loop-pin.pin-index no_text within ∙ ap Some (sym (c.as_slice.ensures.value ∙ c.in_ok-join.ensures)) in
    let absent = sym (found_among c.args.ports.now name (port_line name) c.find.result c.find.ensures) ∙ sym c.if-is_some.ensures in
    are_new-more names more c.loop-pin.pin-index name at c.loop-pin.invariant (ap not absent)
