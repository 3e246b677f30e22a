use Rattle.std.proofs.Common.{◌≡◌, Some, sym, ap, ◌∙◌, arith}
use Rattle.std.proofs.lemmas.Option.{slice_get_within}
use Rattle.std.proofs.lemmas.Slice.Eq.{bytes_eq-Decides}
use Rattle.hw_prims.specs.Table.{inputs_of, outputs_of, pin, pins_of}
use Rattle.cal_place.specs.declared.signature.Side.{Side}
use Rattle.cal_place.specs.declared.signature.Pin.{Pin}
use Rattle.cal_place.proofs.PrimitiveLemmas.{no_pin, none_more, pin_told, pins_few}
use Rattle.cal_place.proofs.prototype.primitive_pin.Goals as goal

pub loop-port-init : goal.loop-port-init
loop-port-init c = (omega arith, λ k p less at named. absurd (omega arith))

pub returns-then-eq : goal.returns-then-eq
returns-then-eq c =
    let prim = c.args.prim in
    let name = c.args.name.now in
    let port = c.in-Some.port in
    let named : port.name.now ≡ name = sym c.as_bytes.ensures.value ∙ (bytes_eq-Decides c.as_bytes.result.now name).0 (sym c.eq.ensures ∙ c.if-eq.true) in
    let of_side : Side → Pin = λ side. record { side = side; width = port.width } in
    ap (λ (side : Side). Some (of_side side)) c.side_of-side.ensures
    ∙ pin_told (inputs_of prim) (outputs_of prim) name c.loop-port.place (pin port.name.now port.width) port.dir c.in-Some.ensures.pin named c.loop-port.invariant.1 c.in-Some.ensures.dir

pub overflow_add-place : goal.overflow_add-place
overflow_add-place c =
    let prim = c.args.prim in
    let within = slice_get_within (pins_of prim) c.loop-port.place (pin c.in-Some.port.name.now c.in-Some.port.width) c.in-Some.ensures.pin in
    omega (arith, within, pins_few prim)

pub loop-port-smaller : goal.loop-port-smaller
loop-port-smaller c =
    let within = slice_get_within (pins_of c.args.prim) c.loop-port.place (pin c.in-Some.port.name.now c.in-Some.port.width) c.in-Some.ensures.pin in
    omega arith

pub loop-port-preserved : goal.loop-port-preserved
loop-port-preserved c =
    let prim = c.args.prim in
    let name = c.args.name.now in
    let port = c.in-Some.port in
    let p = pin port.name.now port.width in
    let within = slice_get_within (pins_of prim) c.loop-port.place p c.in-Some.ensures.pin in (
      omega arith,
      none_more (inputs_of prim) (outputs_of prim) name c.loop-port.place p c.in-Some.ensures.pin
          (λ named.
          let yes' = (bytes_eq-Decides c.as_bytes.result.now name).1 (c.as_bytes.ensures.value ∙ named) in
          let no' = sym c.eq.ensures ∙ c.if-eq.false in
          absurd (cc)) c.loop-port.invariant.1,
    )

pub returns : goal.returns
returns c = no_pin (inputs_of c.args.prim) (outputs_of c.args.prim) c.args.name.now c.loop-port.place c.in_default.ensures.pin c.loop-port.invariant.1
