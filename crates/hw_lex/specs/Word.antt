-- Tokens, as the grammars of Filament (PLDI 2023) and Calyx (ASPLOS 2021) have them in this project's profile.
use Rattle.std.specs.Prelude.{◌≡◌, ℕ, ◌<◌, ◌≤◌, Bool, false, ◌&&◌, not, ◌==◌, List, [], ◌∷◌, ◌++◌, length, IsTrue}
use Rattle.std.specs.List.{list_all}
use Rattle.hw_lex.specs.declared.token.Dialect.{Dialect}
use Rattle.hw_lex.specs.declared.token.Kind.{Kind}
use Rattle.hw_lex.specs.declared.token.Kind.TheVariants.{Name, Number, Literal, Text, Mark}
use Rattle.hw_lex.specs.declared.number.Base.{Base}
use Rattle.hw_lex.specs.declared.number.Base.TheVariants.{Decimal}
use Rattle.hw_lex.specs.Byte.{is_letter, is_name_byte, is_single_mark, is_double_mark}
use Rattle.hw_lex.specs.Number.{is_digit, base_letter, Fits}

-- one digit of the base or more
abbrev pub IsDigits : Base → List ℕ → Type 0
IsDigits base bytes = (0 < length bytes) × IsTrue (list_all (is_digit base) bytes)

-- a letter or `_`, then bytes of names
abbrev pub IsName : Dialect → List ℕ → Type 0
IsName dialect [] = ⊥
IsName dialect (first ∷ others) = IsTrue (is_letter first) × IsTrue (list_all (is_name_byte dialect) others)

-- decimal digits for the width, a quote, the letter of a base, digits of that base for the value
pub record IsLiteral (bytes : List ℕ) : Type 0 where
  pub width : List ℕ
  pub base : Base
  pub digits : List ℕ
  pub parts : bytes ≡ width ++ 39 ∷ base_letter base ∷ digits
  pub of_width : IsDigits Decimal width
  pub of_value : IsDigits base digits

-- a byte that stands between double quotes: neither a double quote nor a line feed
abbrev pub is_text_byte : ℕ → Bool
is_text_byte byte = not (byte == 34) && not (byte == 10)

-- double quotes round bytes of texts
pub record IsText (bytes : List ℕ) : Type 0 where
  pub inner : List ℕ
  pub parts : bytes ≡ 34 ∷ (inner ++ 34 ∷ [])
  pub of_inner : IsTrue (list_all is_text_byte inner)

-- one mark
abbrev pub is_mark : Dialect → List ℕ → Bool
is_mark dialect [] = false
is_mark dialect (first ∷ []) = is_single_mark dialect first
is_mark dialect (first ∷ second ∷ []) = is_double_mark dialect first second
is_mark dialect (_ ∷ _ ∷ _ ∷ _) = false

-- the bytes have the form of a token of this kind
abbrev pub IsWord : Dialect → Kind → List ℕ → Type 0
IsWord dialect Name bytes = IsName dialect bytes
IsWord dialect Number bytes = IsDigits Decimal bytes
IsWord dialect Literal bytes = IsLiteral bytes
IsWord dialect Text bytes = IsText bytes
IsWord dialect Mark bytes = IsTrue (is_mark dialect bytes)

-- a token of this kind stands at the front of the text, and then comes the rest: no longer bytes have the form of a token
-- there, and its numbers are not too large
pub record Stands (dialect : Dialect) (kind : Kind) (text rest : List ℕ) : Type 0 where
  pub bytes : List ℕ
  pub parts : text ≡ bytes ++ rest
  pub word : IsWord dialect kind bytes
  pub longest : (other : Kind) (front more : List ℕ) → text ≡ front ++ more → IsWord dialect other front → length front ≤ length bytes
  pub fits : Fits kind bytes
