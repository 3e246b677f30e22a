use Rattle.std.proofs.Common.{◌≢◌, ◌+◌, ◌<◌, ◌≤◌, length, sym, ap, ◌∙◌, arith, subst, get_or-set_other, get_or-set_same, below_more}
use Rattle.std.proofs.lemmas.List.{get_or-map}
use Rattle.hw_bits.specs.declared.bits.Bits.{Bits}
use Rattle.net_row.proofs.FlatStateLemmas.{fits_slot}
use Rattle.net_row.proofs.flat.open.Goals as goal

pub overflow_cast-slots : goal.overflow_cast-slots
overflow_cast-slots c =
    let b = c.index-inputs-number.result in
    let low : b.width ≤ 64 = subst (λ (x : Bits). x.width ≤ 64) (sym c.index-inputs-number.is) (c.requires.inputs c.loop-number.number b (omega arith)) in
    let fits = fits_slot b.value b.width b.fits low in
    omega (arith, fits, c.value.ensures)

pub loop-number-preserved : goal.loop-number-preserved
loop-number-preserved c =
    let kept = length c.args.kept.now in
    let i = c.loop-number.number in
    let b = c.index-inputs-number.result in
    let lt : i < length c.args.inputs.now = omega arith in
    let within : kept + i < length c.loop-number.slots = omega (arith, lt, c.requires.room) in
    record {
      kept_first = λ k h. let ne : k ≢ kept + i = omega (arith, h) in rw get_or-set_other (c.loop-number.invariant.kept_first k h);
      inputs_next = below_more _ _
          (λ k h. let ne : kept + k ≢ kept + i = omega (arith, h) in rw get_or-set_other (c.loop-number.invariant.inputs_next k h))
          (rw get_or-set_same (c.value.ensures ∙ ap (λ (x : Bits). x.value) c.index-inputs-number.is ∙ sym (get_or-map (λ (x : Bits). x.value) c.args.inputs.now i b 0 lt)));
    }
