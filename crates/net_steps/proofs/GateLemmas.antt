-- What single steps make of the inputs of primitives.
use Rattle.std.proofs.Common.{◌≡◌, ℕ, ◌+◌, ◌-◌, ◌*◌, ◌/◌, ◌%◌, ◌^◌, ◌<◌, ◌≤◌, List, [], ◌∷◌, Bool, not, ◌==◌, nat_lt, if◌then◌else◌, Result, Ok, Err, IfOk, bit_and, refl, sym, ap, subst, ◌∙◌, arith, inl, inr}
use Rattle.std.specs.Prelude.{slice_index}
use mir.Val.{bool_byte}
use Rattle.std.proofs.Math.Nat.{div-one, div-eq_of_lt, mod-eq_of_lt, add-mul-mod_self_left, mul-mod_right}
use Rattle.std.proofs.Math.Pow.{pow_pos, pow_mono, pow-add}
use Rattle.std.proofs.lemmas.Bool.{cases_lt}
use Rattle.std.proofs.lemmas.Bool.Decides.{nat_tests}
use Rattle.std.proofs.lemmas.Nat.{and_mask}
use Rattle.hw_bits.specs.Width.{low_bits, product_bits, left_shifted_bits, right_shifted_bits, inverted_bits}
use Rattle.hw_bits.proofs.WidthLemmas.{low_bits-low_bits, low_bits-of_lt, difference_bits-wrapped, left_shifted_bits-below, left_shifted_bits-past, right_shifted_bits-below, right_shifted_bits-past, joined_bits-or}
use Rattle.hw_prims.specs.Meaning.{bit, output_values}
use Rattle.hw_prims.specs.State.{Stateless}
use Rattle.hw_prims.specs.Table.{inputs_of}
use Rattle.hw_prims.specs.declared.prim.Primitive.{Primitive}
use Rattle.hw_prims.specs.declared.prim.Primitive.TheVariants.{StdConst, StdWire, StdAdd, StdSub, StdAnd, StdOr, StdXor, StdNot, StdEq, StdNeq, StdLt, StdGt, StdLe, StdGe, StdLsh, StdRsh, StdSlice, StdPad, FilMux, FilSlice, FilConcat}
use Rattle.net_steps.specs.Gates.{IsMask, IsGate, AddsGate, values_at}
use Rattle.net_steps.specs.Operations.{is_on, shifted_up, shifted_down}
use Rattle.net_steps.specs.Steps.{Defines, AddsSlot, IsConstant}
use Rattle.net_steps.specs.StepsValue.{StepsValue}
use Rattle.net_steps.specs.Truths.{IsAlways}
use Rattle.net_steps.specs.declared.operation.Operation.{Operation}
use Rattle.net_steps.specs.declared.operation.Operation.TheVariants.{Constant, And, Or, Xor, Add, Subtract, Multiply, Invert, ShiftLeft, ShiftRight, Cut, Join}
use Rattle.net_steps.specs.declared.other.Other.{Other}
use Rattle.net_steps.proofs.ChoiceLemmas.{byte_is}
use Rattle.net_steps.proofs.StepLemmas.{extends_itself, ok_slot_after, row_before, defined_made}
use Rattle.net_steps.proofs.TruthLemmas.{bit_is_on, not_less}

-- the low bits by a mask, of what was wrapped at 64 bits
masked : (w mask x : ℕ) → IsMask w mask → bit_and (x % 2 ^ 64) mask ≡ low_bits w x
masked w mask x m = ap (bit_and (x % 2 ^ 64)) m.is ∙ and_mask (x % 2 ^ 64) w ∙ low_bits-low_bits w 64 x m.within

pub add_gate : (prim : Primitive) (w mask a b : ℕ) → prim ≡ StdAdd w → IsMask w mask → IsGate prim (a ∷ b ∷ []) (Add a b mask)
unfolding output_values
add_gate prim w mask a b is m =
    subst (λ p. IsGate p (a ∷ b ∷ []) (Add a b mask)) (sym is) (λ others choices slots fits. masked w mask (slice_index slots a + slice_index slots b) m)

pub sub_gate : (prim : Primitive) (w mask a b : ℕ) → prim ≡ StdSub w → IsMask w mask → IsGate prim (a ∷ b ∷ []) (Subtract a b mask)
unfolding output_values inputs_of
sub_gate prim w mask a b is m =
    subst (λ p. IsGate p (a ∷ b ∷ []) (Subtract a b mask)) (sym is) (λ others choices slots fits.
    let x = slice_index slots a in
    let y = slice_index slots b in
    ap (bit_and ((x + (2 ^ 64 - y)) % 2 ^ 64)) m.is ∙ and_mask ((x + (2 ^ 64 - y)) % 2 ^ 64) w ∙ difference_bits-wrapped w 64 x y m.within fits.1.0)

pub and_gate : (prim : Primitive) (w a b : ℕ) → prim ≡ StdAnd w → IsGate prim (a ∷ b ∷ []) (And a b)
unfolding output_values
and_gate prim w a b is = subst (λ p. IsGate p (a ∷ b ∷ []) (And a b)) (sym is) (λ others choices slots fits. refl)

pub or_gate : (prim : Primitive) (w a b : ℕ) → prim ≡ StdOr w → IsGate prim (a ∷ b ∷ []) (Or a b)
unfolding output_values
or_gate prim w a b is = subst (λ p. IsGate p (a ∷ b ∷ []) (Or a b)) (sym is) (λ others choices slots fits. refl)

pub xor_gate : (prim : Primitive) (w a b : ℕ) → prim ≡ StdXor w → IsGate prim (a ∷ b ∷ []) (Xor a b)
unfolding output_values
xor_gate prim w a b is = subst (λ p. IsGate p (a ∷ b ∷ []) (Xor a b)) (sym is) (λ others choices slots fits. refl)

inverted : (w mask x : ℕ) → IsMask w mask → x < 2 ^ w → (mask + (2 ^ 64 - x)) % 2 ^ 64 ≡ inverted_bits w x
inverted w mask x m fits =
    let powers : 2 ^ w ≤ 2 ^ 64 = pow_mono m.within in
    let e = m.is in
    let split : mask + (2 ^ 64 - x) ≡ (2 ^ w - 1 - x) + 2 ^ 64 * 1 = omega (arith, e, fits, powers) in
    let small : 2 ^ w - 1 - x < 2 ^ 64 = omega (arith, fits, powers) in
    ap (λ n. n % 2 ^ 64) split ∙ add-mul-mod_self_left (2 ^ w - 1 - x) (2 ^ 64) 1 ∙ mod-eq_of_lt small

pub not_gate : (prim : Primitive) (w mask a : ℕ) → prim ≡ StdNot w → IsMask w mask → IsGate prim (a ∷ []) (Invert a mask)
unfolding output_values inputs_of
not_gate prim w mask a is m = subst (λ p. IsGate p (a ∷ []) (Invert a mask)) (sym is) (λ others choices slots fits. inverted w mask (slice_index slots a) m fits.0)

shifted_up-below : (x y : ℕ) → y < 64 → shifted_up x y ≡ (x * 2 ^ y) % 2 ^ 64
shifted_up-below x y lt = grind (arith, nat_tests)

shifted_up-past : (x y : ℕ) → 64 ≤ y → shifted_up x y ≡ 0
shifted_up-past x y le = grind (arith, nat_tests)

shifted_down-below : (x y : ℕ) → y < 64 → shifted_down x y ≡ x / 2 ^ y
shifted_down-below x y lt = grind (arith, nat_tests)

shifted_down-past : (x y : ℕ) → 64 ≤ y → shifted_down x y ≡ 0
shifted_down-past x y le = grind (arith, nat_tests)

-- nothing is left of what is shifted by the width or more
no_low_bits : (w x y : ℕ) → w ≤ y → low_bits w (x * 2 ^ y) ≡ 0
no_low_bits w x y le =
    let widths : w + (y - w) ≡ y = omega (arith, le) in
    let power : 2 ^ y ≡ 2 ^ w * 2 ^ (y - w) = ap (λ k. 2 ^ k) (sym widths) ∙ pow-add 2 w (y - w) in
    let whole : x * 2 ^ y ≡ 2 ^ w * (x * 2 ^ (y - w)) = ap (λ k. x * k) power ∙ grind arith in
    ap (low_bits w) whole ∙ mul-mod_right (2 ^ w) (x * 2 ^ (y - w))

up : (w mask x y : ℕ) → IsMask w mask → bit_and (shifted_up x y) mask ≡ left_shifted_bits w x y
up w mask x y m = elim (cases_lt y w) [
  | inl below ↦
      let within = m.within in
      let lt : y < 64 = omega (arith, below, within) in
      ap (λ v. bit_and v mask) (shifted_up-below x y lt) ∙ masked w mask (x * 2 ^ y) m ∙ sym (left_shifted_bits-below w x y below)
  | inr past ↦ elim (cases_lt y 64) [
    | inl lt ↦ ap (λ v. bit_and v mask) (shifted_up-below x y lt) ∙ masked w mask (x * 2 ^ y) m ∙ no_low_bits w x y past ∙ sym (left_shifted_bits-past w x y past)
    | inr over ↦ ap (λ v. bit_and v mask) (shifted_up-past x y over) ∙ ap (bit_and 0) m.is ∙ and_mask 0 w ∙ low_bits-of_lt w 0 (pow_pos w) ∙ sym (left_shifted_bits-past w x y past)
  ]
]

pub lsh_gate : (prim : Primitive) (w mask a b : ℕ) → prim ≡ StdLsh w → IsMask w mask → IsGate prim (a ∷ b ∷ []) (ShiftLeft a b mask)
unfolding output_values
lsh_gate prim w mask a b is m = subst (λ p. IsGate p (a ∷ b ∷ []) (ShiftLeft a b mask)) (sym is) (λ others choices slots fits. up w mask (slice_index slots a) (slice_index slots b) m)

down : (w x y : ℕ) → w ≤ 64 → x < 2 ^ w → shifted_down x y ≡ right_shifted_bits w x y
down w x y within fits = elim (cases_lt y w) [
  | inl below ↦ let lt : y < 64 = omega (arith, below, within) in shifted_down-below x y lt ∙ sym (right_shifted_bits-below w x y below)
  | inr past ↦ elim (cases_lt y 64) [
    | inl lt ↦
        let powers : 2 ^ w ≤ 2 ^ y = pow_mono past in
        let small : x < 2 ^ y = omega (arith, fits, powers) in
        shifted_down-below x y lt ∙ div-eq_of_lt small ∙ sym (right_shifted_bits-past w x y past)
    | inr over ↦ shifted_down-past x y over ∙ sym (right_shifted_bits-past w x y past)
  ]
]

pub rsh_gate : (prim : Primitive) (w mask a b : ℕ) → prim ≡ StdRsh w → IsMask w mask → IsGate prim (a ∷ b ∷ []) (ShiftRight a b)
unfolding output_values inputs_of
rsh_gate prim w mask a b is m = subst (λ p. IsGate p (a ∷ b ∷ []) (ShiftRight a b)) (sym is) (λ others choices slots fits. down w (slice_index slots a) (slice_index slots b) m.within fits.0)

pub slice_gate : (prim : Primitive) (i o mask a : ℕ) → prim ≡ StdSlice i o → IsMask o mask → IsGate prim (a ∷ []) (Cut a 0 mask)
unfolding output_values
slice_gate prim i o mask a is m = subst (λ p. IsGate p (a ∷ []) (Cut a 0 mask)) (sym is) (λ others choices slots fits.
    let x = slice_index slots a in
    ap (λ v. bit_and v mask) (div-one x) ∙ ap (bit_and x) m.is ∙ and_mask x o)

pub between_gate : (prim : Primitive) (w hi lo mask a : ℕ) → prim ≡ FilSlice w hi lo → lo ≤ hi → IsMask (hi - lo + 1) mask → IsGate prim (a ∷ []) (Cut a lo mask)
unfolding output_values
between_gate prim w hi lo mask a is le m = subst (λ p. IsGate p (a ∷ []) (Cut a lo mask)) (sym is) (λ others choices slots fits.
    let x = slice_index slots a in
    let width : hi - lo + 1 ≡ hi + 1 - lo = omega (arith, le) in
    ap (bit_and (x / 2 ^ lo)) m.is ∙ and_mask (x / 2 ^ lo) (hi - lo + 1) ∙ ap (λ k. low_bits k (x / 2 ^ lo)) width)

pub join_gate : (prim : Primitive) (above shift a b : ℕ) → prim ≡ FilConcat above shift → above + shift ≤ 64 → IsGate prim (a ∷ b ∷ []) (Join a b shift)
unfolding output_values inputs_of
join_gate prim above shift a b is le = subst (λ p. IsGate p (a ∷ b ∷ []) (Join a b shift)) (sym is) (λ others choices slots fits. joined_bits-or above shift 64 (slice_index slots a) (slice_index slots b) fits.0 fits.1.0 le)

-- ---- added to other steps

pub gate_by_step : (old new : StepsValue) (prim : Primitive) (inputs : List ℕ) (step : Operation) (slot : ℕ) → IsGate prim inputs step → Defines old new step slot → AddsGate old new prim inputs slot
gate_by_step old new prim inputs step slot is defines = record {
  extends = defines.extends;
  made = λ others slots row fits. defined_made old new step slot defines others slots row ∙ is others row.choices slots fits;
}

pub gate_there : (steps : StepsValue) (prim : Primitive) (a : ℕ) → ((others : List Other) (slots : List ℕ) → slice_index slots a ≡ slice_index (output_values prim Stateless (slice_index slots a ∷ [])) 0) → AddsGate steps steps prim (a ∷ []) a
gate_there steps prim a is = record { extends = extends_itself steps; made = λ others slots row fits. is others slots }

pub const_gate : {E : Type 0} (r : Result ℕ E) (old new : StepsValue) (prim : Primitive) (w v : ℕ) → prim ≡ StdConst w v → IfOk r (AddsSlot old new (λ others slots. v)) → IfOk r (AddsGate old new prim [])
unfolding output_values
const_gate (Ok slot) old new prim w v is adds = subst (λ p. AddsGate old new p [] slot) (sym is) (record { extends = adds.extends; made = λ others slots row fits. adds.made others slots row })
const_gate (Err e) old new prim w v is adds = adds

pub wire_gate : (steps : StepsValue) (prim : Primitive) (w a : ℕ) → prim ≡ StdWire w → AddsGate steps steps prim (a ∷ []) a
unfolding output_values
wire_gate steps prim w a is = subst (λ p. AddsGate steps steps p (a ∷ []) a) (sym is) (record { extends = extends_itself steps; made = λ others slots row fits. refl })

pub pad_gate : (steps : StepsValue) (prim : Primitive) (i o a : ℕ) → prim ≡ StdPad i o → AddsGate steps steps prim (a ∷ []) a
unfolding output_values
pad_gate steps prim i o a is = subst (λ p. AddsGate steps steps p (a ∷ []) a) (sym is) (record { extends = extends_itself steps; made = λ others slots row fits. refl })

-- ---- comparisons, and one of two

-- what is known makes a bit
pub known_bit : (old new : StepsValue) (test : List ℕ → Bool) (on : Bool) (slot : ℕ) → IsAlways old test on → Defines old new (Constant (bool_byte on)) slot → AddsSlot old new (λ others slots. bit (test slots)) slot
known_bit old new test on slot always defines = record {
  extends = defines.extends;
  made = λ others slots row.
      defined_made old new (Constant (bool_byte on)) slot defines others slots row
      ∙ byte_is on
      ∙ ap bit (sym (always others slots (row_before old new defines.extends others slots row)));
}

pub not_known : (steps : StepsValue) (slot number : ℕ) → IsConstant steps slot number → IsAlways steps (λ slots. not (is_on slots slot)) (not (number == 1))
not_known steps slot number is others slots row = ap (λ v. not (v == 1)) (is others slots row)

-- a gate whose output is what a slot has
pub gate_as : {E : Type 0} (r : Result ℕ E) (old new : StepsValue) (prim : Primitive) (inputs : List ℕ) (value : List Other → List ℕ → ℕ) → ((others : List Other) (slots : List ℕ) → value others slots ≡ slice_index (output_values prim Stateless (values_at slots inputs)) 0) → IfOk r (AddsSlot old new value) → IfOk r (AddsGate old new prim inputs)
gate_as (Ok slot) old new prim inputs value is adds = record {
  extends = adds.extends;
  made = λ others slots row fits. adds.made others slots row ∙ is others slots;
}
gate_as (Err e) old new prim inputs value is adds = adds

pub eq_gate : {E : Type 0} (r : Result ℕ E) (old new : StepsValue) (prim : Primitive) (w a b : ℕ) → prim ≡ StdEq w → IfOk r (AddsSlot old new (λ others slots. bit (slice_index slots a == slice_index slots b))) → IfOk r (AddsGate old new prim (a ∷ b ∷ []))
unfolding output_values
eq_gate r old new prim w a b is = subst (λ p. IfOk r (AddsSlot old new (λ others slots. bit (slice_index slots a == slice_index slots b))) → IfOk r (AddsGate old new p (a ∷ b ∷ []))) (sym is)
    (gate_as r old new (StdEq w) (a ∷ b ∷ []) (λ others slots. bit (slice_index slots a == slice_index slots b)) (λ others slots. refl))

pub lt_gate : {E : Type 0} (r : Result ℕ E) (old new : StepsValue) (prim : Primitive) (w a b : ℕ) → prim ≡ StdLt w → IfOk r (AddsSlot old new (λ others slots. bit (nat_lt (slice_index slots a) (slice_index slots b)))) → IfOk r (AddsGate old new prim (a ∷ b ∷ []))
unfolding output_values
lt_gate r old new prim w a b is = subst (λ p. IfOk r (AddsSlot old new (λ others slots. bit (nat_lt (slice_index slots a) (slice_index slots b)))) → IfOk r (AddsGate old new p (a ∷ b ∷ []))) (sym is)
    (gate_as r old new (StdLt w) (a ∷ b ∷ []) (λ others slots. bit (nat_lt (slice_index slots a) (slice_index slots b))) (λ others slots. refl))

pub gt_gate : {E : Type 0} (r : Result ℕ E) (old new : StepsValue) (prim : Primitive) (w a b : ℕ) → prim ≡ StdGt w → IfOk r (AddsSlot old new (λ others slots. bit (nat_lt (slice_index slots b) (slice_index slots a)))) → IfOk r (AddsGate old new prim (a ∷ b ∷ []))
unfolding output_values
gt_gate r old new prim w a b is = subst (λ p. IfOk r (AddsSlot old new (λ others slots. bit (nat_lt (slice_index slots b) (slice_index slots a)))) → IfOk r (AddsGate old new p (a ∷ b ∷ []))) (sym is)
    (gate_as r old new (StdGt w) (a ∷ b ∷ []) (λ others slots. bit (nat_lt (slice_index slots b) (slice_index slots a))) (λ others slots. refl))

pub mux_gate : (old new : StepsValue) (prim : Primitive) (w on a b slot : ℕ) → prim ≡ FilMux w → AddsSlot old new (λ others slots. if is_on slots on then slice_index slots a else slice_index slots b) slot → AddsGate old new prim (on ∷ a ∷ b ∷ []) slot
unfolding output_values
mux_gate old new prim w on a b slot is adds = subst (λ p. AddsGate old new p (on ∷ a ∷ b ∷ []) slot) (sym is) (record {
  extends = adds.extends;
  made = λ others slots row fits. adds.made others slots row;
})

-- the negation of a test
negated_slot : {E : Type 0} (r : Result ℕ E) (old mid new : StepsValue) (test : List ℕ → Bool) (slot : ℕ) → AddsSlot old mid (λ others slots. bit (test slots)) slot → IfOk r (AddsSlot mid new (λ others slots. bit (not (is_on slots slot)))) → IfOk r (AddsSlot old new (λ others slots. bit (not (test slots))))
negated_slot r old mid new test slot adds =
    ok_slot_after r old mid new (λ others slots. bit (not (is_on slots slot))) (λ others slots. bit (not (test slots))) adds.extends
    (λ others slots row. ap (λ v. bit (not (v == 1))) (adds.made others slots row) ∙ ap (λ b. bit (not b)) (bit_is_on (test slots)))

pub neq_gate : {E : Type 0} (r : Result ℕ E) (old mid new : StepsValue) (prim : Primitive) (w a b slot : ℕ) → prim ≡ StdNeq w → AddsSlot old mid (λ others slots. bit (slice_index slots a == slice_index slots b)) slot → IfOk r (AddsSlot mid new (λ others slots. bit (not (is_on slots slot)))) → IfOk r (AddsGate old new prim (a ∷ b ∷ []))
unfolding output_values
neq_gate r old mid new prim w a b slot is adds negated =
    subst (λ p. IfOk r (AddsGate old new p (a ∷ b ∷ []))) (sym is)
    (gate_as r old new (StdNeq w) (a ∷ b ∷ []) (λ others slots. bit (not (slice_index slots a == slice_index slots b))) (λ others slots. refl)
    (negated_slot r old mid new (λ slots. slice_index slots a == slice_index slots b) slot adds negated))

pub le_gate : {E : Type 0} (r : Result ℕ E) (old mid new : StepsValue) (prim : Primitive) (w a b slot : ℕ) → prim ≡ StdLe w → AddsSlot old mid (λ others slots. bit (nat_lt (slice_index slots b) (slice_index slots a))) slot → IfOk r (AddsSlot mid new (λ others slots. bit (not (is_on slots slot)))) → IfOk r (AddsGate old new prim (a ∷ b ∷ []))
unfolding output_values
le_gate r old mid new prim w a b slot is adds negated =
    subst (λ p. IfOk r (AddsGate old new p (a ∷ b ∷ []))) (sym is)
    (gate_as r old new (StdLe w) (a ∷ b ∷ []) (λ others slots. bit (not (nat_lt (slice_index slots b) (slice_index slots a)))) (λ others slots. ap bit (not_less (slice_index slots b) (slice_index slots a)))
    (negated_slot r old mid new (λ slots. nat_lt (slice_index slots b) (slice_index slots a)) slot adds negated))

pub ge_gate : {E : Type 0} (r : Result ℕ E) (old mid new : StepsValue) (prim : Primitive) (w a b slot : ℕ) → prim ≡ StdGe w → AddsSlot old mid (λ others slots. bit (nat_lt (slice_index slots a) (slice_index slots b))) slot → IfOk r (AddsSlot mid new (λ others slots. bit (not (is_on slots slot)))) → IfOk r (AddsGate old new prim (a ∷ b ∷ []))
unfolding output_values
ge_gate r old mid new prim w a b slot is adds negated =
    subst (λ p. IfOk r (AddsGate old new p (a ∷ b ∷ []))) (sym is)
    (gate_as r old new (StdGe w) (a ∷ b ∷ []) (λ others slots. bit (not (nat_lt (slice_index slots a) (slice_index slots b)))) (λ others slots. ap bit (not_less (slice_index slots a) (slice_index slots b)))
    (negated_slot r old mid new (λ slots. nat_lt (slice_index slots a) (slice_index slots b)) slot adds negated))

pub product_made : (old new : StepsValue) (w mask a b slot : ℕ) → IsMask w mask → Defines old new (Multiply a b mask) slot → AddsSlot old new (λ others slots. product_bits w (slice_index slots a) (slice_index slots b)) slot
product_made old new w mask a b slot m defines = record {
  extends = defines.extends;
  made = λ others slots row. defined_made old new (Multiply a b mask) slot defines others slots row ∙ masked w mask (slice_index slots a * slice_index slots b) m;
}
