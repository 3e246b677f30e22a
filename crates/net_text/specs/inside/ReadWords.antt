-- Reading words at the front of a text: what the private functions compute, on lists. proofs/ shows that they read just the texts of words.
use Rattle.std.specs.Prelude.{ℕ, ◌+◌, ◌-◌, ◌*◌, Bool, ◌&&◌, ◌||◌, ◌==◌, nat_le, if◌then◌else◌, [], ◌∷◌, take, drop, codes, Option, None, Some, option_and_then}
use Rattle.std.specs.List.{prefix_len}
use Rattle.hw_names.specs.Name.{Text}
use Rattle.net_core.specs.declared.net.Src.{Src}
use Rattle.net_core.specs.declared.net.Src.TheVariants.{Port, Lit}
use Rattle.net_text.specs.Names.{continues_name, is_path, is_number}

-- a value and the text after it
abbrev pub Read : Type 0 → Type 0
Read A = Option (A × Text)

infixl 10 ◌>>=◌
abbrev pub ◌>>=◌ : {A B : Type 0} → Option A → (A → Option B) → Option B
o >>= f = option_and_then f o

-- the value, where no text is left
abbrev pub whole : {A : Type 0} → Read A → Option A
whole None = None
whole (Some (a, [])) = Some a
whole (Some (a, c ∷ cs)) = None

-- what follows this word, where the text begins with it
abbrev pub after : Text → Text → Option Text
after [] text = Some text
after (c ∷ cs) [] = None
after (c ∷ cs) (d ∷ ds) = if c == d then after cs ds else None

-- a byte of a path or a number
abbrev pub is_word_byte : ℕ → Bool
is_word_byte c = continues_name c || c == 46

-- how many of them stand at the front
abbrev pub word_len : Text → ℕ
word_len text = prefix_len is_word_byte text

-- the word at the front, where it passes the test
unfoldable pub word_at : (Text → Bool) → Text → Read Text
word_at test text = if test (take (word_len text) text) then Some (take (word_len text) text, drop (word_len text) text) else None

abbrev pub is_digit : ℕ → Bool
is_digit c = nat_le 48 c && nat_le c 57

-- the number that these digits write after those of n
abbrev pub digits_after : ℕ → Text → Option ℕ
digits_after n [] = Some n
digits_after n (c ∷ cs) = if is_digit c && is_number (n * 10 + (c - 48)) then digits_after (n * 10 + (c - 48)) cs else None

-- the number that a word writes, without leading zeros
unfoldable pub number_of : Text → Option ℕ
number_of [] = None
number_of (c ∷ []) = digits_after 0 (c ∷ [])
number_of (c ∷ d ∷ cs) = if c == 48 then None else digits_after 0 (c ∷ d ∷ cs)

unfoldable pub number_at : Text → Read ℕ
number_at text = number_of (take (word_len text) text) >>= λ n. Some (n, drop (word_len text) text)

-- a literal, from its width on
unfoldable pub literal_at : Text → Read (Src Text)
literal_at text = do
  width ← number_at text
  digits ← after (codes "'d") width.1
  value ← number_at digits
  Some (Lit width.0 value.0, value.1)

unfoldable pub source_at : Text → Read (Src Text)
source_at text =
    if is_path (take (word_len text) text) then Some (Port (take (word_len text) text), drop (word_len text) text) else literal_at text

-- f of what follows the word, or the other reading where the text doesn't begin with it
abbrev pub where_after : {A : Type 0} → Option Text → (Text → Option A) → Option A → Option A
where_after (Some rest) f other = f rest
where_after None f other = other
