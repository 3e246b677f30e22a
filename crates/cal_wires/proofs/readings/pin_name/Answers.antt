use Rattle.std.proofs.Common.{[], sym, arith}
use Rattle.std.proofs.lemmas.Option.{get_or_from_slice_get}
use Rattle.hw_prims.specs.Table.{Pin, pin, pin_names, pins_of}
use Rattle.cal_place.proofs.FoundLemmas.{to_map}
use Rattle.cal_wires.proofs.readings.pin_name.Goals as goal

pub returns : goal.returns
returns c =
    let pins = pins_of c.args.prim in
    let p : Pin = pin c.in-Some.port.name.now c.in-Some.port.width in
    sym (get_or_from_slice_get (pin_names pins) c.args.place p.name [] (to_map (λ (q : Pin). q.name) pins c.args.place p c.in-Some.ensures.pin))

pub unreachable-requires : goal.unreachable-requires
unreachable-requires c = omega (arith, c.in-None.ensures.pin, c.requires.place)
