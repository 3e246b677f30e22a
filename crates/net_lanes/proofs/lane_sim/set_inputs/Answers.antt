use Rattle.std.proofs.Common.{◌≡◌, ◌<◌, ◌∙◌, length, get_or, sym, ap, arith}
use Rattle.std.proofs.lemmas.List.{length-map, get_or-map}
use Rattle.hw_bits.specs.Values.{widths_of}
use Rattle.hw_bits.specs.declared.bits.Bits.{Bits}
use Rattle.net_lanes.proofs.RowLemmas.{set_more}
use Rattle.net_lanes.proofs.lane_sim.set_inputs.Goals as goal

pub loop-number-preserved : goal.loop-number-preserved
loop-number-preserved c =
    let held = c.loop-number.held in
    let number = c.loop-number.number in
    let b = c.index-held-number.result in
    let within : number < length held = omega (arith, c.requires.inputs.all, length-map c.args.held.now (λ (x : Bits). x.width), c.loop-number.auto.held) in
    let width : c.wrap.result.width ≡ get_or (widths_of held) number 0 =
    c.wrap.ensures.width ∙ c.width.ensures ∙ ap (λ (x : Bits). x.width) c.index-held-number.is ∙ sym (get_or-map (λ (x : Bits). x.width) held number b 0 within) in
    set_more (widths_of c.args.held.now) c.args.lane c.args.inputs.now number held c.wrap.result c.width.result _ c.requires.inputs c.requires.lane (omega arith) c.wrap.ensures.width width
    c.wrap.ensures.value c.loop-number.invariant
