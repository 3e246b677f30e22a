use Rattle.std.proofs.Common.{◌≡◌, ◌≤◌, true, length, length-append, sym, arith}
use Rattle.std.proofs.lemmas.Bool.{lt-ltb}
use Rattle.hw_prims.specs.Table.{Pin, pin, pins_of, inputs_of, outputs_of}
use Rattle.net_lanes.specs.Narrow.{is_wide}
use Rattle.net_lanes.proofs.NarrowLemmas.{few_inputs, few_outputs, any_here, none_any, none_at_all}
use Rattle.net_lanes.proofs.narrow.has_wide_pin.Goals as goal

pub overflow_add-number-end : goal.overflow_add-number-end
overflow_add-number-end c = omega (arith, few_inputs c.args.prim, few_outputs c.args.prim, c.inputs.ensures, c.outputs.ensures)

pub returns-in-loop-number : goal.returns-in-loop-number
returns-in-loop-number c =
    let port = c.in-Some.port in
    let wide : is_wide port.width ≡ true = lt-ltb 64 port.width (omega arith) in
    sym (any_here (λ (p : Pin). is_wide p.width) (pins_of c.args.prim) c.loop-number.number (pin port.name.now port.width) c.in-Some.ensures.pin wide)

pub returns : goal.returns
returns c =
    let pins = pins_of c.args.prim in
    let past : length pins ≤ c.loop-number.number = omega (arith, length-append (inputs_of c.args.prim) (outputs_of c.args.prim), c.inputs.ensures, c.outputs.ensures) in
    sym (none_any (λ (p : Pin). is_wide p.width) pins (none_at_all (λ (p : Pin). is_wide p.width) c.loop-number.number pins past c.loop-number.invariant))
