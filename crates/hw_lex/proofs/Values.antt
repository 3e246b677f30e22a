-- Numbers that digits spell.
use Rattle.std.proofs.Common.{◌≡◌, ℕ, ◌+◌, ◌*◌, ◌<◌, ◌≤◌, List, [], ◌∷◌, length, get_or, drop, refl, arith, add-one, drop-cons}
use Rattle.hw_lex.specs.declared.number.Base.{Base}
use Rattle.hw_lex.specs.declared.number.Base.TheVariants.{Binary, Octal, Decimal, Hexadecimal}
use Rattle.hw_lex.specs.Number.{radix, digit_value, value_from}

radix_grows : (base : Base) (value : ℕ) → value ≤ value * radix base
radix_grows Binary value = omega arith
radix_grows Octal value = omega arith
radix_grows Decimal value = omega arith
radix_grows Hexadecimal value = omega arith

-- further digits make no number smaller
pub value_from-grows : (base : Base) (value : ℕ) (digits : List ℕ) → value ≤ value_from base value digits
value_from-grows base value [] = omega arith
value_from-grows base value (digit ∷ digits) =
    let h = value_from-grows base (value * radix base + digit_value digit) digits in
    let r = radix_grows base value in
    omega (arith, h, r)

-- the next digit
pub value_from-next : (base : Base) (value i : ℕ) (digits : List ℕ) → i < length digits → value_from base value (drop i digits) ≡ value_from base (value * radix base + digit_value (get_or digits i 0)) (drop (i + 1) digits)
value_from-next base value i digits lt = rw (drop-cons digits i 0, add-one) refl

-- a number that is too large before the next digit, or with it, is too large in the end
pub too_large : (base : Base) (value i total most : ℕ) (digits : List ℕ) → i < length digits → value_from base value (drop i digits) ≡ total → most ≤ value * radix base + digit_value (get_or digits i 0) → total < most → ⊥
too_large base value i total most digits lt is large small =
    let next = value_from-next base value i digits lt in
    let grows = value_from-grows base (value * radix base + digit_value (get_or digits i 0)) (drop (i + 1) digits) in
    absurd (omega (arith, next, grows, is))

not_below : (a n : ℕ) → (a < n → ⊥) → n ≤ a
not_below a n h = omega arith

-- the same, told by the product and the sum
pub product_too_large : (base : Base) (value i total most : ℕ) (digits : List ℕ) → i < length digits → value_from base value (drop i digits) ≡ total → (value * radix base < most → ⊥) → total < most → ⊥
product_too_large base value i total most digits lt is large small =
    let h = not_below (value * radix base) most large in
    too_large base value i total most digits lt is (omega arith) small

pub sum_too_large : (base : Base) (value i total most product digit : ℕ) (digits : List ℕ) → i < length digits → value_from base value (drop i digits) ≡ total → value * radix base ≡ product → digit ≡ digit_value (get_or digits i 0) → (product + digit < most → ⊥) → total < most → ⊥
sum_too_large base value i total most product digit digits lt is by_product by_digit large small =
    let h = not_below (product + digit) most large in
    too_large base value i total most digits lt is (omega arith) small
