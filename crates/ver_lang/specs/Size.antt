-- How many bits an expression has by itself, and how many the context gives to each of its operands. IEEE 1364-2005, 5.4.1, Table 5-22.
use Rattle.std.specs.Prelude.{ℕ, ◌+◌, ◌-◌, max}
use Rattle.hw_names.specs.Name.{Text}
use Rattle.ver_lang.specs.Tree.{Operator, Plus, Minus, Times, BitAnd, BitOr, BitXor, Equal, Unequal, Less, Greater, AtMost, AtLeast, ShiftLeft, ShiftRight}
use Rattle.ver_lang.specs.Tree.{And, Or, Expr, Name, Literal, Part, Word, Joined, Inverse, Negation, Binary, Choice, Bracketed}

-- the declared width of each net, register and memory, in bits; of a memory that of a word
abbrev pub Widths : Type 0
Widths = Text → ℕ

-- what the outcome of an operator is sized by: both operands (`+ - * & | ^`), none, as the outcome has one bit (`== != < > <= >= && ||`), or the left one
-- (`<< >>`)
abbrev pub operator_size : Operator → ℕ → ℕ → ℕ
operator_size Plus left right = max left right
operator_size Minus left right = max left right
operator_size Times left right = max left right
operator_size BitAnd left right = max left right
operator_size BitOr left right = max left right
operator_size BitXor left right = max left right
operator_size ShiftLeft left right = left
operator_size ShiftRight left right = left
operator_size op left right = 1

-- the size of an expression, where no context gives it another
abbrev pub size : Widths → Expr → ℕ
size widths (Name x) = widths x
size widths (Literal width value) = width
size widths (Part x high low) = high + 1 - low
size widths (Word m index) = widths m
size widths (Joined high low) = size widths high + size widths low
size widths (Inverse e) = size widths e
size widths (Negation e) = 1
size widths (Binary op a b) = operator_size op (size widths a) (size widths b)
size widths (Choice c a b) = max (size widths a) (size widths b)
size widths (Bracketed e) = size widths e

-- the size that the left operand is given in a context of this size: the context's (`+ - * & | ^ << >>`), that of the larger operand (`== != < > <= >=`),
-- or its own (`&& ||`)
abbrev pub left_size : Operator → (context left right : ℕ) → ℕ
left_size Equal context left right = max left right
left_size Unequal context left right = max left right
left_size Less context left right = max left right
left_size Greater context left right = max left right
left_size AtMost context left right = max left right
left_size AtLeast context left right = max left right
left_size And context left right = left
left_size Or context left right = left
left_size op context left right = context

-- the same of the right operand; the amount of a shift has its own size
abbrev pub right_size : Operator → (context left right : ℕ) → ℕ
right_size ShiftLeft context left right = right
right_size ShiftRight context left right = right
right_size And context left right = right
right_size Or context left right = right
right_size op context left right = left_size op context left right
