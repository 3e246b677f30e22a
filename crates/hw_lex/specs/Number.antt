-- Digits of a base, and the numbers that they spell.
use Rattle.std.specs.Prelude.{ℕ, ◌+◌, ◌-◌, ◌*◌, ◌^◌, ◌<◌, Bool, ◌||◌, nat_le, if◌then◌else◌, List, [], ◌∷◌, Option, Some, None, drop, ◌==◌}
use Rattle.std.specs.List.{prefix_len, take_while}
use Rattle.hw_lex.specs.declared.number.Base.{Base}
use Rattle.hw_lex.specs.declared.number.Base.TheVariants.{Binary, Octal, Decimal, Hexadecimal}
use Rattle.hw_lex.specs.declared.token.Kind.{Kind}
use Rattle.hw_lex.specs.declared.token.Kind.TheVariants as kinds
use Rattle.hw_lex.specs.Byte.{is_between}

-- how many digits the base has
abbrev pub radix : Base → ℕ
radix Binary = 2
radix Octal = 8
radix Decimal = 10
radix Hexadecimal = 16

-- the byte that names the base in a literal: `b`, `o`, `d` or `x`
abbrev pub base_letter : Base → ℕ
base_letter Binary = 98
base_letter Octal = 111
base_letter Decimal = 100
base_letter Hexadecimal = 120

-- the byte is a digit of the base; letters are of either case
abbrev pub is_digit : Base → ℕ → Bool
is_digit Binary byte = is_between 48 49 byte
is_digit Octal byte = is_between 48 55 byte
is_digit Decimal byte = is_between 48 57 byte
is_digit Hexadecimal byte = is_between 48 57 byte || is_between 65 70 byte || is_between 97 102 byte

-- the value of a digit
abbrev pub digit_value : ℕ → ℕ
digit_value byte = if nat_le byte 57 then byte - 48 else (if nat_le byte 70 then byte - 55 else byte - 87)

-- the number that further digits make of one
abbrev pub value_from : Base → ℕ → List ℕ → ℕ
value_from base value [] = value
value_from base value (digit ∷ digits) = value_from base (value * radix base + digit_value digit) digits

-- the number that digits of a base spell
abbrev pub value_in : Base → List ℕ → ℕ
value_in base digits = value_from base 0 digits

-- the base that a byte names, if it names one
abbrev pub base_of : ℕ → Option Base
base_of byte =
    if byte == 100 then Some Decimal else (if byte == 98 then Some Binary
    else (if byte == 111 then Some Octal else (if byte == 120 then Some Hexadecimal else None)))

-- the number of a NUMBER
abbrev pub number_of : List ℕ → ℕ
number_of bytes = value_in Decimal bytes

-- the width of a LITERAL
abbrev pub width_of : List ℕ → ℕ
width_of bytes = value_in Decimal (take_while (is_digit Decimal) bytes)

-- the number that the digits after a base's letter spell
abbrev pub value_by : Option Base → List ℕ → ℕ
value_by None digits = 0
value_by (Some base) digits = value_in base digits

-- the number that a quote, a base's letter and digits spell
abbrev pub quoted_value : List ℕ → ℕ
quoted_value [] = 0
quoted_value (_ ∷ []) = 0
quoted_value (_ ∷ letter ∷ digits) = value_by (base_of letter) digits

-- the value of a LITERAL
abbrev pub value_of : List ℕ → ℕ
value_of bytes = quoted_value (drop (prefix_len (is_digit Decimal) bytes) bytes)

-- the numbers of a token are below 2 ^ 128
abbrev pub Fits : Kind → List ℕ → Type 0
Fits kinds.Number bytes = number_of bytes < 2 ^ 128
Fits kinds.Literal bytes = (width_of bytes < 2 ^ 128) × (value_of bytes < 2 ^ 128)
Fits _ bytes = Unit {0}
