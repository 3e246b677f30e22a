use Rattle.std.proofs.Common.{◌≡◌, ◌<◌, [], ◌∷◌, ◌++◌, Some, length, get_or, take, sym, ap, ◌∙◌, arith}
use Rattle.std.specs.Prelude.{slice_get, option_map}
use Rattle.std.proofs.lemmas.List.{length-map, take_more}
use Rattle.std.proofs.lemmas.Option.{slice_get-map, get_or_from_slice_get}
use Rattle.hw_prims.specs.Table.{Pin, pin, inputs_of, outputs_of, pin_widths}
use Rattle.net_sim.proofs.ValidLemmas.{slice_get-append_before}
use Rattle.net_row.proofs.flat.input_widths.Goals as goal

pub loop-number-preserved : goal.loop-number-preserved
loop-number-preserved c =
    let ins = inputs_of c.args.prim in
    let i = c.loop-number.number in
    let width = c.in-Some.port.width in
    let lt : i < length ins = omega arith in
    let within : i < length (pin_widths ins) = omega (arith, lt, length-map ins (λ (p : Pin). p.width)) in
    let at : slice_get ins i ≡ Some (pin c.in-Some.port.name.now width) = sym (slice_get-append_before ins (outputs_of c.args.prim) i lt) ∙ c.in-Some.ensures.pin in
    let is : get_or (pin_widths ins) i 0 ≡ width = get_or_from_slice_get (pin_widths ins) i width 0 (slice_get-map (λ (p : Pin). p.width) ins i ∙ ap (option_map (λ (p : Pin). p.width)) at) in
    c.in_ok-push.ensures.items ∙ ap (λ l. l ++ width ∷ []) c.loop-number.invariant ∙ ap (λ w. take i (pin_widths ins) ++ w ∷ []) (sym is) ∙ sym (take_more (pin_widths ins) i 0 within)
