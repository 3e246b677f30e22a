-- Arithmetic of a width, unsigned and modulo 2 ^ width, as the primitives of Calyx (ASPLOS 2021) compute it.
-- Bit 0 is the lowest.
use Rattle.std.specs.Prelude.{ℕ, ◌+◌, ◌-◌, ◌*◌, ◌/◌, ◌%◌, ◌^◌, nat_lt, if◌then◌else◌}

-- the low bits of any number
abbrev pub low_bits : ℕ → ℕ → ℕ
low_bits width x = x % 2 ^ width

-- without the carry
abbrev pub sum_bits : ℕ → ℕ → ℕ → ℕ
sum_bits width x y = low_bits width (x + y)

-- y is below 2 ^ width; a difference below 0 wraps
abbrev pub difference_bits : ℕ → ℕ → ℕ → ℕ
difference_bits width x y = low_bits width (x + (2 ^ width - y))

-- the low half of the product
abbrev pub product_bits : ℕ → ℕ → ℕ → ℕ
product_bits width x y = low_bits width (x * y)

-- each bit of x inverted; x is below 2 ^ width
abbrev pub inverted_bits : ℕ → ℕ → ℕ
inverted_bits width x = 2 ^ width - 1 - x

-- shifted up by y; by the width or more nothing is left
abbrev pub left_shifted_bits : ℕ → ℕ → ℕ → ℕ
left_shifted_bits width x y = if nat_lt y width then low_bits width (x * 2 ^ y) else 0

-- shifted down by y; by the width or more nothing is left
abbrev pub right_shifted_bits : ℕ → ℕ → ℕ → ℕ
right_shifted_bits width x y = if nat_lt y width then x / 2 ^ y else 0

-- the bits from hi down to lo, both included
abbrev pub bits_between : ℕ → ℕ → ℕ → ℕ
bits_between x hi lo = low_bits (hi + 1 - lo) (x / 2 ^ lo)

-- high above low, where low has low_width bits
abbrev pub joined_bits : ℕ → ℕ → ℕ → ℕ
joined_bits low_width high low = high * 2 ^ low_width + low
