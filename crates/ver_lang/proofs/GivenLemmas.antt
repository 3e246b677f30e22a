-- What an assignment gives to its target: the operand's context is wide enough, and what is cut off is not missed.
use Rattle.std.proofs.Common.{◌≡◌, ℕ, zero, suc, ◌+◌, ◌-◌, ◌*◌, ◌/◌, ◌%◌, ◌^◌, ◌<◌, ◌≤◌, Bool, true, false, refl, sym, ap, ◌∙◌, inl, inr, lit<, arith}
use Rattle.std.proofs.Math.Nat.{div-eq_of_lt, div-one, mul-mod_right, zero-mod}
use Rattle.std.proofs.Math.Pow.{pow_mono}
use Rattle.std.proofs.lemmas.Bool.{cases_lt}
use Rattle.std.proofs.lemmas.Bool.Decides.{nat_tests}
use Rattle.std.proofs.lemmas.Nat.{pow-add}
use Rattle.std.specs.Prelude.{◌==◌, if◌then◌else◌, Some}
use Rattle.hw_bits.specs.Width.{low_bits, difference_bits, inverted_bits, left_shifted_bits, right_shifted_bits, bits_between, joined_bits}
use Rattle.hw_bits.proofs.WidthLemmas.{low_bits-of_lt, low_bits-low_bits, difference_bits-wrapped, inverted_bits-lt, left_shifted_bits-below, left_shifted_bits-past, right_shifted_bits-below, right_shifted_bits-past, right_shifted_bits-lt}
use Rattle.hw_names.specs.Name.{Text}
use Rattle.ver_lang.specs.CellItems.{padded}
use Rattle.ver_lang.specs.Size.{Widths}
use Rattle.ver_lang.specs.Tree.{Name, Literal, Joined}
use Rattle.ver_lang.specs.Value.{Cycle, bit, is_true, part_of, value}

-- a value that fits its target
pub fits_given : (o w v : ℕ) → o ≡ w → v < 2 ^ w → low_bits o v ≡ v
fits_given o w v is-o fits = ap (λ (n : ℕ). low_bits n v) is-o ∙ low_bits-of_lt w v fits

-- what is wrapped at the target's width or a greater one
pub wrapped_given : (o w wider v : ℕ) → o ≡ w → w ≤ wider → low_bits o (low_bits wider v) ≡ low_bits w v
wrapped_given o w wider v is-o le = ap (λ (n : ℕ). low_bits n (low_bits wider v)) is-o ∙ low_bits-low_bits w wider v le

pub difference_given : (o w wider x y : ℕ) → o ≡ w → w ≤ wider → y < 2 ^ w → low_bits o (difference_bits wider x y) ≡ difference_bits w x y
difference_given o w wider x y is-o le fits =
    ap (λ (n : ℕ). low_bits n (difference_bits wider x y)) is-o ∙ difference_bits-wrapped w wider x y le fits

-- the context of an inverse is its target's width
pub inverse_given : (o w context x : ℕ) → o ≡ w → context ≡ w → low_bits o (inverted_bits context x) ≡ inverted_bits w x
inverse_given o w context x is-o is-context =
    ap (λ (n : ℕ). low_bits o (inverted_bits n x)) is-context ∙ fits_given o w (inverted_bits w x) is-o (inverted_bits-lt w x)

-- nothing is left of a number that is shifted up by its width or more
shifted_past : (w x y : ℕ) → w ≤ y → low_bits w (x * 2 ^ y) ≡ 0
shifted_past w x y le =
    let sum : w + (y - w) ≡ y = omega arith in
    let power : 2 ^ y ≡ 2 ^ w * 2 ^ (y - w) = sym (ap (λ (n : ℕ). 2 ^ n) sum) ∙ pow-add 2 w (y - w) in
    let product : x * 2 ^ y ≡ 2 ^ w * (2 ^ (y - w) * x) = rw power (omega arith) in
    ap (λ (n : ℕ). n % 2 ^ w) product ∙ mul-mod_right (2 ^ w) (2 ^ (y - w) * x)

shifted_up : (w x y : ℕ) → low_bits w (x * 2 ^ y) ≡ left_shifted_bits w x y
shifted_up w x y =
    elim (cases_lt y w) [
      | inl below ↦ sym (left_shifted_bits-below w x y below)
      | inr past ↦ shifted_past w x y past ∙ sym (left_shifted_bits-past w x y past)
    ]

pub left_shift_given : (o w wider x y : ℕ) → o ≡ w → w ≤ wider → low_bits o (low_bits wider (x * 2 ^ y)) ≡ left_shifted_bits w x y
left_shift_given o w wider x y is-o le = wrapped_given o w wider (x * 2 ^ y) is-o le ∙ shifted_up w x y

-- nor of one that is shifted down so far
shifted_down : (w x y : ℕ) → x < 2 ^ w → x / 2 ^ y ≡ right_shifted_bits w x y
shifted_down w x y fits =
    elim (cases_lt y w) [
      | inl below ↦ sym (right_shifted_bits-below w x y below)
      | inr past ↦
          let powers : 2 ^ w ≤ 2 ^ y = pow_mono past in
          let small : x < 2 ^ y = omega arith in
          div-eq_of_lt small ∙ sym (right_shifted_bits-past w x y past)
    ]

pub right_shift_given : (o w x y : ℕ) → o ≡ w → x < 2 ^ w → low_bits o (x / 2 ^ y) ≡ right_shifted_bits w x y
right_shift_given o w x y is-o fits =
    ap (low_bits o) (shifted_down w x y fits) ∙ fits_given o w (right_shifted_bits w x y) is-o (right_shifted_bits-lt w x y fits)

pub bit-lt : (passed : Bool) → bit passed < 2 ^ 1
bit-lt true = lit< tt
bit-lt false = lit< tt

-- the outcome of a test has one bit
pub test_given : (o : ℕ) (passed : Bool) → o ≡ 1 → low_bits o (bit passed) ≡ bit passed
test_given o passed is-o = fits_given o 1 (bit passed) is-o (bit-lt passed)

-- a selector of one bit
pub choice_given : (sel a b : ℕ) → sel < 2 → (if is_true sel then Some a else Some b) ≡ Some (if sel == 1 then a else b)
choice_given zero a b one_bit = refl
choice_given (suc zero) a b one_bit = refl
choice_given (suc (suc n)) a b one_bit = absurd (omega (arith, one_bit))

-- bits that are there
pub part_is : (width x high low : ℕ) → low ≤ high → high < width → part_of width x high low ≡ Some (bits_between x high low)
part_is width x high low le lt = grind (arith, nat_tests)

-- the lower bits
pub lower_bits : (o x : ℕ) → 1 ≤ o → bits_between x (o - 1) 0 ≡ low_bits o x
lower_bits o x some =
    let count : o - 1 + 1 - 0 ≡ o = omega arith in
    ap (λ (n : ℕ). low_bits n (x / 2 ^ 0)) count ∙ ap (low_bits o) (div-one x)

-- zeros above a number leave it as it is
pub zeros_joined : (n w x : ℕ) → joined_bits w (low_bits n 0) x ≡ x
zeros_joined n w x = ap (λ (high : ℕ). high * 2 ^ w + x) (zero-mod (2 ^ n)) ∙ omega arith

-- zeros above an expression leave its value
pub padded_value : (widths : Widths) (now : Cycle) (context n : ℕ) (x : Text) → value widths now context (padded n (Name x)) ≡ Some (now.row x)
padded_value widths now context n x = by (n == 0)
  where
    by : (none : Bool) → value widths now context (if none then Name x else Joined (Literal n 0) (Name x)) ≡ Some (now.row x)
    by true = refl
    by false = ap (λ (v : ℕ). Some v) (zeros_joined n (widths x) (now.row x))
