-- The tokens of a Verilog text. IEEE 1364-2005, clause 3.
use Rattle.std.specs.Prelude.{◌≡◌, ℕ, ◌+◌, ◌-◌, ◌*◌, ◌<◌, ◌≤◌, Bool, false, ◌&&◌, ◌||◌, ◌==◌, nat_le, List, [], ◌∷◌, ◌++◌, length, bytes_eq, codes, IsTrue}
use Rattle.std.specs.List.{list_all, list_any}
use Rattle.hw_names.specs.Name.{Text}

pub data Token : Type 0 where
  -- a keyword (3.7.2), or a name without a backslash, of which no rule of the grammar speaks
  Keyword : Text → Token
  -- an operator (3.4) or a mark of punctuation
  Mark : Text → Token
  -- an escaped name (3.7.1), without its backslash and the white space that ends it
  Escaped : Text → Token
  -- a number without a size (3.5.1)
  Number : ℕ → Token
  -- a number with a size (3.5.1), W'dV
  Sized : (width value : ℕ) → Token

-- the byte is one of those from low up to high, both included
abbrev pub is_between : ℕ → ℕ → ℕ → Bool
is_between low high byte = nat_le low byte && nat_le byte high

-- a space, a tab, a line feed or a form feed (3.2)
abbrev pub is_white : ℕ → Bool
is_white byte = byte == 32 || byte == 9 || byte == 10 || byte == 12

-- a byte that an escaped name may have: one that is printed, and no white space (3.7.1)
abbrev pub is_printed : ℕ → Bool
is_printed byte = is_between 33 126 byte

abbrev pub is_digit : ℕ → Bool
is_digit byte = is_between 48 57 byte

-- a letter or `_`
abbrev pub is_letter : ℕ → Bool
is_letter byte = is_between 65 90 byte || is_between 97 122 byte || byte == 95

-- a letter, `_`, a digit or `$`
abbrev pub is_name_byte : ℕ → Bool
is_name_byte byte = is_letter byte || is_digit byte || byte == 36

-- each mark of the standard, also those that no rule of the grammar has; `//` and `/*`, which begin comments, are marks here
abbrev pub marks : List Text
marks =
    codes "(" ∷ codes ")" ∷ codes "[" ∷ codes "]" ∷ codes "{" ∷ codes "}" ∷ codes "," ∷ codes ";" ∷ codes ":" ∷ codes "?" ∷ codes "=" ∷ codes "@"
    ∷ codes "#" ∷ codes "." ∷ codes "$" ∷ codes "'" ∷ codes "\"" ∷ codes "`" ∷ codes "+" ∷ codes "-" ∷ codes "*" ∷ codes "/" ∷ codes "%" ∷ codes "!"
    ∷ codes "~" ∷ codes "&" ∷ codes "|" ∷ codes "^" ∷ codes "<" ∷ codes ">" ∷ codes "**" ∷ codes "==" ∷ codes "!=" ∷ codes "<=" ∷ codes ">="
    ∷ codes "&&" ∷ codes "||" ∷ codes "~&" ∷ codes "~|" ∷ codes "~^" ∷ codes "^~" ∷ codes "<<" ∷ codes ">>" ∷ codes "->" ∷ codes "=>" ∷ codes "*>"
    ∷ codes "+:" ∷ codes "-:" ∷ codes "(*" ∷ codes "*)" ∷ codes "//" ∷ codes "/*" ∷ codes "===" ∷ codes "!==" ∷ codes "<<<" ∷ codes ">>>"
    ∷ codes "&&&" ∷ []

-- one digit or more
abbrev pub IsDigits : Text → Type 0
IsDigits text = (0 < length text) × IsTrue (list_all is_digit text)

-- the number that further digits make of one
abbrev pub number_from : ℕ → Text → ℕ
number_from number [] = number
number_from number (digit ∷ digits) = number_from (number * 10 + (digit - 48)) digits

abbrev pub number_of : Text → ℕ
number_of digits = number_from 0 digits

-- a letter or `_`, then bytes of names
abbrev pub is_plain_name : Text → Bool
is_plain_name [] = false
is_plain_name (first ∷ others) = is_letter first && list_all is_name_byte others

abbrev pub is_one_of : List Text → Text → Bool
is_one_of texts text = list_any (bytes_eq text) texts

-- a backslash (92), one byte or more that are printed, and one byte of white space
pub record IsEscaped (name word : Text) : Type 0 where
  pub some : 0 < length name
  pub printed : IsTrue (list_all is_printed name)
  pub white : ℕ
  pub ends : IsTrue (is_white white)
  pub parts : word ≡ 92 ∷ (name ++ white ∷ [])

-- digits for the size, a quote and `d`, digits for the value, with no white space between them
pub record IsSized (width value : ℕ) (word : Text) : Type 0 where
  pub size : Text
  pub digits : Text
  pub of_size : IsDigits size
  pub of_digits : IsDigits digits
  pub width_is : width ≡ number_of size
  pub value_is : value ≡ number_of digits
  pub parts : word ≡ size ++ codes "'d" ++ digits

-- the bytes are this token's
abbrev pub IsWordOf : Token → Text → Type 0
IsWordOf (Keyword text) word = IsTrue (is_plain_name text) × (word ≡ text)
IsWordOf (Mark text) word = IsTrue (is_one_of marks text) × (word ≡ text)
IsWordOf (Escaped name) word = IsEscaped name word
IsWordOf (Number n) word = IsDigits word × (n ≡ number_of word)
IsWordOf (Sized width value) word = IsSized width value word

-- the token stands at the front of the text, and then comes the rest: no longer bytes there are a token's
pub record Stands (token : Token) (text rest : Text) : Type 0 where
  pub word : Text
  pub is_word : IsWordOf token word
  pub parts : text ≡ word ++ rest
  pub longest : (other : Token) (longer more : Text) → IsWordOf other longer → text ≡ longer ++ more → length longer ≤ length word

-- these are the tokens of the text, with white space before, between and after them (3.1)
pub data AreTokens : Text → List Token → Type 0 where
  none : AreTokens [] []
  white : {byte : ℕ} {rest : Text} {tokens : List Token} → IsTrue (is_white byte) → AreTokens rest tokens → AreTokens (byte ∷ rest) tokens
  one : {text rest : Text} {token : Token} {tokens : List Token} → Stands token text rest → AreTokens rest tokens → AreTokens text (token ∷ tokens)
