use Rattle.std.proofs.Common.{◌≡◌, ℕ, ◌+◌, ◌<◌, List, [], ◌∷◌, ◌++◌, Some, length, take, get_or, sym, ap, ap₂, ◌∙◌, arith}
use Rattle.std.proofs.lemmas.Grind.{common_steps}
use Rattle.std.proofs.lemmas.List.{length-map, map-append, take_more, get_or-map, get_or_append_left}
use Rattle.std.proofs.lemmas.Option.{get_or_from_slice_get}
use Rattle.std.specs.Prelude.{slice_get}
use Rattle.hw_bits.specs.Values.{widths_of}
use Rattle.hw_bits.specs.declared.bits.Bits.{Bits}
use Rattle.hw_prims.specs.Row.{Text}
use Rattle.hw_prims.specs.Table.{Pin, pin, pins_of, inputs_of, outputs_of, pin_widths}
use Rattle.hw_prims.specs.declared.prim.Primitive.{Primitive}
use Rattle.hw_tests.proofs.primitives.inputs_with.Goals as goal

-- one more input, as a loop over the ports makes them
input_widths-push : (prim : Primitive) (inputs : List Bits) (k : ℕ) (input : Bits) (name : Text) (width : ℕ) → widths_of inputs ≡ take k (pin_widths (inputs_of prim)) → k < length (inputs_of prim) → slice_get (pins_of prim) k ≡ Some (pin name width) → input.width ≡ width → widths_of (inputs ++ input ∷ []) ≡ take (k + 1) (pin_widths (inputs_of prim))
input_widths-push prim inputs k input name width before within port same =
    let ins : List Pin = inputs_of prim in
    let p : Pin = pin name width in
    let width_of = λ (q : Pin). q.width in
    let here : get_or ins k p ≡ p = sym (get_or_append_left ins (outputs_of prim) p k within) ∙ get_or_from_slice_get (pins_of prim) k p p port in
    let at : get_or (pin_widths ins) k 0 ≡ width = get_or-map width_of ins k p 0 within ∙ ap width_of here in
    let inside : k < length (pin_widths ins) = omega (arith, length-map ins width_of) in
    map-append (λ (x : Bits). x.width) inputs (input ∷ [])
    ∙ ap₂ (λ (ws : List ℕ) (w : ℕ). ws ++ w ∷ []) before (same ∙ sym at)
    ∙ sym (take_more (pin_widths ins) k 0 inside)

pub loop-i-preserved : goal.loop-i-preserved
loop-i-preserved c = grind (arith, common_steps, input_widths-push)
