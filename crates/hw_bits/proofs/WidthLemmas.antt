-- Each word of Width gives a number of its width, and what wrapping at a greater width leaves is the same.
use Rattle.std.proofs.Common.{◌≡◌, ℕ, ◌+◌, ◌-◌, ◌*◌, ◌/◌, ◌%◌, ◌^◌, ◌<◌, ◌≤◌, bit_and, bit_or, nat_lt, if◌then◌else◌, true, false, ap, sym, ◌∙◌, arith}
use Rattle.std.proofs.Math.Nat.{mod-lt, mod-eq_of_lt, add-mul-mod_self_left}
use Rattle.std.proofs.Math.Pow.{mod-mod-pow, pow_pos, pow_mono, pow-add}
use Rattle.std.proofs.lemmas.Nat.{and_le_l, or_shifted, shl_whole, shr_le, mul-add-lt}
use Rattle.std.proofs.lemmas.Nat.Bits.{ones_shr}
use Rattle.std.proofs.lemmas.Bool.Decides.{nat_tests}
use Rattle.hw_bits.specs.Width.{low_bits, sum_bits, difference_bits, product_bits, inverted_bits, left_shifted_bits, right_shifted_bits, bits_between, joined_bits}

pub low_bits-lt : (width x : ℕ) → low_bits width x < 2 ^ width
low_bits-lt width x = mod-lt x (pow_pos width)

-- a number that fits is its own low bits
pub low_bits-of_lt : (width x : ℕ) → x < 2 ^ width → low_bits width x ≡ x
low_bits-of_lt width x fits = mod-eq_of_lt fits

-- the low bits of a longer wrap
pub low_bits-low_bits : (width wider x : ℕ) → width ≤ wider → low_bits width (low_bits wider x) ≡ low_bits width x
low_bits-low_bits width wider x le =
    let split : wider ≡ (wider - width) + width = omega arith in
    ap (λ (w : ℕ). x % 2 ^ w % 2 ^ width) split ∙ mod-mod-pow x (wider - width) width

pub sum_bits-lt : (width x y : ℕ) → sum_bits width x y < 2 ^ width
sum_bits-lt width x y = low_bits-lt width (x + y)

pub difference_bits-lt : (width x y : ℕ) → difference_bits width x y < 2 ^ width
difference_bits-lt width x y = low_bits-lt width (x + (2 ^ width - y))

pub product_bits-lt : (width x y : ℕ) → product_bits width x y < 2 ^ width
product_bits-lt width x y = low_bits-lt width (x * y)

pub inverted_bits-lt : (width x : ℕ) → inverted_bits width x < 2 ^ width
inverted_bits-lt width x = let pos : 0 < 2 ^ width = pow_pos width in omega arith

pub left_shifted_bits-lt : (width x y : ℕ) → left_shifted_bits width x y < 2 ^ width
left_shifted_bits-lt width x y =
    elim (nat_lt y width) as (λ b. (if b then low_bits width (x * 2 ^ y) else 0) < 2 ^ width)
    [ true ↦ low_bits-lt width (x * 2 ^ y) | false ↦ pow_pos width ]

-- a shift below the width
pub left_shifted_bits-below : (width x y : ℕ) → y < width → left_shifted_bits width x y ≡ low_bits width (x * 2 ^ y)
left_shifted_bits-below width x y lt = grind (arith, nat_tests)

-- a shift by the width or more
pub left_shifted_bits-past : (width x y : ℕ) → width ≤ y → left_shifted_bits width x y ≡ 0
left_shifted_bits-past width x y le = grind (arith, nat_tests)

pub right_shifted_bits-below : (width x y : ℕ) → y < width → right_shifted_bits width x y ≡ x / 2 ^ y
right_shifted_bits-below width x y lt = grind (arith, nat_tests)

pub right_shifted_bits-past : (width x y : ℕ) → width ≤ y → right_shifted_bits width x y ≡ 0
right_shifted_bits-past width x y le = grind (arith, nat_tests)

pub right_shifted_bits-lt : (width x y : ℕ) → x < 2 ^ width → right_shifted_bits width x y < 2 ^ width
right_shifted_bits-lt width x y fits =
    let below : x / 2 ^ y ≤ x = shr_le x y in
    elim (nat_lt y width) as (λ b. (if b then x / 2 ^ y else 0) < 2 ^ width)
    [ true ↦ omega arith | false ↦ pow_pos width ]

pub bits_between-lt : (x hi lo : ℕ) → bits_between x hi lo < 2 ^ (hi + 1 - lo)
bits_between-lt x hi lo = low_bits-lt (hi + 1 - lo) (x / 2 ^ lo)

pub joined_bits-lt : (high_width low_width high low : ℕ) → high < 2 ^ high_width → low < 2 ^ low_width →
    joined_bits low_width high low < 2 ^ (high_width + low_width)
joined_bits-lt high_width low_width high low high_fits low_fits =
    let within : high * 2 ^ low_width + low < 2 ^ low_width * 2 ^ high_width = mul-add-lt high (2 ^ low_width) low (2 ^ high_width) high_fits low_fits in
    let product : 2 ^ (high_width + low_width) ≡ 2 ^ high_width * 2 ^ low_width = pow-add 2 high_width low_width in
    omega arith

pub bit_and-lt : (width x y : ℕ) → x < 2 ^ width → bit_and x y < 2 ^ width
bit_and-lt width x y fits = let below : bit_and x y ≤ x = and_le_l x y in omega arith

-- a number that fits a width fits a greater one
pub lt-wider : (width wider x : ℕ) → width ≤ wider → x < 2 ^ width → x < 2 ^ wider
lt-wider width wider x le fits = let powers : 2 ^ width ≤ 2 ^ wider = pow_mono le in omega arith

-- the same difference of two numbers below a, as a difference of numbers below a * (k + 1)
difference_split : (whole a k x y : ℕ) → whole ≡ a * (k + 1) → y < a → x + (whole - y) ≡ (x + (a - y)) + a * k
difference_split whole a k x y product fits = omega arith

-- a subtraction that wraps at a greater width
pub difference_bits-wrapped : (width wider x y : ℕ) → width ≤ wider → y < 2 ^ width →
    low_bits width (low_bits wider (x + (2 ^ wider - y))) ≡ difference_bits width x y
difference_bits-wrapped width wider x y le fits =
    let above : 2 ^ width * 2 ^ (wider - width) ≡ 2 ^ (width + (wider - width)) = sym (pow-add 2 width (wider - width)) in
    let widths : width + (wider - width) ≡ wider = omega arith in
    let pos : 0 < 2 ^ (wider - width) = pow_pos (wider - width) in
    let one : (2 ^ (wider - width) - 1) + 1 ≡ 2 ^ (wider - width) = omega arith in
    let whole : 2 ^ wider ≡ 2 ^ width * ((2 ^ (wider - width) - 1) + 1) = sym (ap (λ (k : ℕ). 2 ^ width * k) one ∙ above ∙ ap (λ (w : ℕ). 2 ^ w) widths) in
    low_bits-low_bits width wider (x + (2 ^ wider - y)) le
    ∙ ap (low_bits width) (difference_split (2 ^ wider) (2 ^ width) (2 ^ (wider - width) - 1) x y whole fits)
    ∙ add-mul-mod_self_left (x + (2 ^ width - y)) (2 ^ width) (2 ^ (wider - width) - 1)

-- all ones of a greater width, shifted down to this one
pub ones-shifted : (width wider : ℕ) → width ≤ wider → (2 ^ wider - 1) / 2 ^ (wider - width) ≡ 2 ^ width - 1
ones-shifted width wider le =
    let le' : wider - width ≤ wider = omega arith in
    let rest : wider - (wider - width) ≡ width = omega arith in
    ones_shr wider (wider - width) le' ∙ ap (λ (w : ℕ). 2 ^ w - 1) rest

-- shifted and joined by `or` at a width that holds both
pub joined_bits-or : (high_width low_width whole high low : ℕ) → high < 2 ^ high_width → low < 2 ^ low_width → high_width + low_width ≤ whole →
    bit_or (high * 2 ^ low_width % 2 ^ whole) low ≡ joined_bits low_width high low
joined_bits-or high_width low_width whole high low high_fits low_fits le =
    ap (λ (h : ℕ). bit_or h low) (shl_whole high high_width low_width whole high_fits le) ∙ or_shifted high low_width low low_fits
