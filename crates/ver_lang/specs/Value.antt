-- What an expression gives in one cycle of the clock. IEEE 1364-2005, clause 5, where all is unsigned and no bit is `x` or `z`; where the standard gives
-- `x`, nothing is given here.
use Rattle.std.specs.Prelude.{ℕ, ◌+◌, ◌*◌, ◌/◌, ◌^◌, ◌==◌, Bool, not, ◌&&◌, ◌||◌, nat_lt, nat_le, List, slice_get, bit_and, bit_or, bit_xor, max}
use Rattle.std.specs.Prelude.{Option, Some, None, option_map, option_and_then, if◌then◌else◌}
use Rattle.hw_bits.specs.Width.{low_bits, difference_bits, inverted_bits, bits_between, joined_bits}
use Rattle.hw_names.specs.Name.{Text}
use Rattle.hw_prims.specs.Row.{Row}
use Rattle.ver_lang.specs.Size.{Widths, size, left_size, right_size}
use Rattle.ver_lang.specs.Tree.{Operator, Plus, Minus, Times, BitAnd, BitOr, BitXor, Equal, Unequal, Less, Greater, AtMost, AtLeast, ShiftLeft, ShiftRight}
use Rattle.ver_lang.specs.Tree.{And, Or, Expr, Name, Literal, Part, Word, Joined, Inverse, Negation, Binary, Choice, Bracketed}

-- what is held in one cycle: the value of each net and each register, and the words of each memory
pub record Cycle : Type 0 where
  pub row : Row
  pub words : Text → List ℕ

-- one bit, 1 where the test is passed (5.1.7, 5.1.8, 5.1.9)
abbrev pub bit : Bool → ℕ
bit passed = if passed then 1 else 0

-- an operand is true where it isn't 0 (5.1.9, 5.1.13, 9.4)
abbrev pub is_true : ℕ → Bool
is_true v = not (v == 0)

-- what an operator makes of its operands in a context of w bits
abbrev pub operated : Operator → ℕ → ℕ → ℕ → ℕ
-- modulo 2 ^ w (5.1.5)
operated Plus w x y = low_bits w (x + y)
operated Minus w x y = difference_bits w x y
operated Times w x y = low_bits w (x * y)
-- bit by bit (5.1.10)
operated BitAnd w x y = bit_and x y
operated BitOr w x y = bit_or x y
operated BitXor w x y = bit_xor x y
-- unsigned (5.1.7, 5.1.8)
operated Equal w x y = bit (x == y)
operated Unequal w x y = bit (not (x == y))
operated Less w x y = bit (nat_lt x y)
operated Greater w x y = bit (nat_lt y x)
operated AtMost w x y = bit (nat_le x y)
operated AtLeast w x y = bit (nat_le y x)
-- zeros are shifted in, and what is shifted out is lost (5.1.12)
operated ShiftLeft w x y = low_bits w (x * 2 ^ y)
operated ShiftRight w x y = x / 2 ^ y
-- (5.1.9)
operated And w x y = bit (is_true x && is_true y)
operated Or w x y = bit (is_true x || is_true y)

-- both values seen by f, where both are given
abbrev pub both : (ℕ → ℕ → ℕ) → Option ℕ → Option ℕ → Option ℕ
both f a b = option_and_then (λ x. option_map (f x) b) a

-- the one that a condition chooses; what the other gives doesn't matter
abbrev pub chosen : {A : Type 0} → Option ℕ → Option A → Option A → Option A
chosen condition a b = option_and_then (λ c. if is_true c then a else b) condition

-- the bits of a value of this width; a bit that isn't there is `x` (5.2.1)
abbrev pub part_of : (width value high low : ℕ) → Option ℕ
part_of width value high low = if nat_le low high && nat_lt high width then Some (bits_between value high low) else None

-- the value of an expression in a context of w bits. An operand that the context sizes is as wide as the context; one that it doesn't size is as wide as it
-- is by itself; a value gains zeros where it is made wider (5.4.1, 5.5.2). A literal with too many bits loses its upper ones (3.5.1). A word that isn't there
-- is `x` (5.2.2)
abbrev pub value : Widths → Cycle → ℕ → Expr → Option ℕ
value widths now w (Name x) = Some (now.row x)
value widths now w (Literal width v) = Some (low_bits width v)
value widths now w (Part x high low) = part_of (widths x) (now.row x) high low
value widths now w (Word m index) = option_and_then (slice_get (now.words m)) (value widths now (size widths index) index)
value widths now w (Joined high low) =
    both (joined_bits (size widths low)) (value widths now (size widths high) high) (value widths now (size widths low) low)
value widths now w (Inverse e) = option_map (inverted_bits w) (value widths now w e)
value widths now w (Negation e) = option_map (λ v. bit (not (is_true v))) (value widths now (size widths e) e)
value widths now w (Binary op a b) =
    both (operated op w)
    (value widths now (left_size op w (size widths a) (size widths b)) a)
    (value widths now (right_size op w (size widths a) (size widths b)) b)
value widths now w (Choice c a b) = chosen (value widths now (size widths c) c) (value widths now w a) (value widths now w b)
value widths now w (Bracketed e) = value widths now w e

-- what is assigned to a target of w bits: the expression is as wide as the wider of both, and upper bits that the target doesn't have are lost (5.5.3, 5.6)
abbrev pub assigned : Widths → Cycle → ℕ → Expr → Option ℕ
assigned widths now w e = option_map (low_bits w) (value widths now (max w (size widths e)) e)
