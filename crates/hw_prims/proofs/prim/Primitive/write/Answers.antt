use Rattle.std.proofs.Common.{◌≡◌, ℕ, ◌<◌, Some, length, ap₂, sym, ◌∙◌, arith}
use Rattle.std.specs.Prelude.{slice_index, Option}
use Rattle.hw_bits.specs.Values.{values_of}
use Rattle.hw_prims.specs.Memory.{place_of, words_with, address_count}
use Rattle.hw_prims.proofs.KeptLemmas.{values_of_set, value_at, data_is_input}
use Rattle.hw_prims.proofs.prim.Primitive.write.Goals as goal

pub returns-in-Some-clause-words : goal.returns-in-Some-clause-words
returns-in-Some-clause-words c =
    let word = c.index-inputs-data-in-Some.result in
    let ins = c.args.inputs.now in
    let words = c.args.words.now in
    let inside = data_is_input c.args.self ins c.requires.memory c.requires.inputs in
    let place : place_of c.args.self (values_of ins) ≡ Some c.in-Some.place = cc in
    let within : c.addresses-data.result < length ins = omega arith in
    let datum : slice_index (values_of ins) (address_count c.args.self) ≡ word.value = rw (← c.addresses-data.ensures) (value_at ins c.addresses-data.result word within c.index-inputs-data-in-Some.is) in
    values_of_set words c.in-Some.place word
    ∙ sym (ap₂ (λ (p : Option ℕ) (v : ℕ). words_with (values_of words) p v) place datum)
