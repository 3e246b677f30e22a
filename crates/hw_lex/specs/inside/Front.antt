-- What is cut from the front of a text, computed: what the functions inside the crate give. That it is what Word and Gap
-- say is proved in proofs/.
use Rattle.std.specs.Prelude.{ℕ, ◌+◌, ◌==◌, if◌then◌else◌, List, [], ◌∷◌, Option, Some, None, drop}
use Rattle.std.specs.List.{prefix_len}
use Rattle.hw_lex.specs.declared.token.Dialect.{Dialect}
use Rattle.hw_lex.specs.declared.token.Kind.{Kind}
use Rattle.hw_lex.specs.declared.token.Kind.TheVariants.{Name, Number, Literal, Text, Mark}
use Rattle.hw_lex.specs.declared.number.Base.{Base}
use Rattle.hw_lex.specs.declared.number.Base.TheVariants.{Decimal}
use Rattle.hw_lex.specs.Byte.{is_letter, is_blank, is_name_byte, is_single_mark, is_double_mark}
use Rattle.hw_lex.specs.Number.{is_digit, base_of}
use Rattle.hw_lex.specs.Word.{is_text_byte}
use Rattle.hw_lex.specs.Gap.{is_in_line, is_closing}

-- after the first `*/`
abbrev pub after_close : List ℕ → Option (List ℕ)
after_close [] = None
after_close (byte ∷ bytes) = if is_closing (byte ∷ bytes) then Some (drop 1 bytes) else after_close bytes

-- after the slash of a comment
abbrev pub after_slash : List ℕ → Option (List ℕ)
after_slash [] = None
after_slash (second ∷ inner) =
    if second == 47 then Some (drop (prefix_len is_in_line inner) inner) else (if second == 42 then after_close inner else None)

-- after one blank or comment
abbrev pub after_space : List ℕ → Option (List ℕ)
after_space [] = None
after_space (byte ∷ bytes) = if is_blank byte then Some bytes else (if byte == 47 then after_slash bytes else None)

-- how many bytes the quote, the letter of a base and the digits after it are; 0 where there is no base or no digit
abbrev pub based_len : Option Base → List ℕ → ℕ
based_len None digits = 0
based_len (Some base) digits = if prefix_len (is_digit base) digits == 0 then 0 else prefix_len (is_digit base) digits + 2

-- how many bytes of a literal follow the digits of its width; 0 where no literal goes on here
abbrev pub literal_tail : List ℕ → ℕ
literal_tail [] = 0
literal_tail (_ ∷ []) = 0
literal_tail (quote ∷ letter ∷ digits) = if quote == 39 then based_len (base_of letter) digits else 0

-- the number or the literal at a digit, and its length
abbrev pub numeral : List ℕ → Kind × ℕ
numeral text =
    let width = prefix_len (is_digit Decimal) text in
    let tail = literal_tail (drop width text) in
    if tail == 0 then (Number, width) else (Literal, width + tail)

-- the length of a text in double quotes of which so many inner bytes and then the rest stand after the first quote
abbrev pub closed_len : ℕ → List ℕ → ℕ
closed_len count [] = 0
closed_len count (byte ∷ _) = if byte == 34 then count + 2 else 0

-- the length of the text in double quotes whose inner bytes and closing quote are given; 0 where it is not closed
abbrev pub text_len : List ℕ → ℕ
text_len inner =
    let count = prefix_len is_text_byte inner in
    closed_len count (drop count inner)

-- the length of the mark, 0 where there is none
abbrev pub mark_len : Dialect → List ℕ → ℕ
mark_len dialect [] = 0
mark_len dialect (first ∷ []) = if is_single_mark dialect first then 1 else 0
mark_len dialect (first ∷ second ∷ _) =
    if is_double_mark dialect first second then 2 else (if is_single_mark dialect first then 1 else 0)

-- a kind and a length, where the length is not 0
abbrev pub if_any : Kind × ℕ → Option (Kind × ℕ)
if_any word = if word.1 == 0 then None else Some word

-- the longest bytes at the front that have the form of a token: their kind and their length
abbrev pub front_word : Dialect → List ℕ → Option (Kind × ℕ)
front_word dialect [] = None
front_word dialect (first ∷ others) =
    if_any (if is_letter first then (Name, prefix_len (is_name_byte dialect) others + 1)
    else (if is_digit Decimal first then numeral (first ∷ others)
    else (if first == 34 then (Text, text_len others)
    else (Mark, mark_len dialect (first ∷ others)))))
