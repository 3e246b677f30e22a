-- Blanks and comments, as the grammars of Filament (PLDI 2023) and Calyx (ASPLOS 2021) have them in this project's
-- profile.
use Rattle.std.specs.Prelude.{◌≡◌, ℕ, Bool, true, false, ◌&&◌, not, ◌==◌, List, [], ◌∷◌, ◌++◌, IsTrue}
use Rattle.std.specs.List.{list_all}
use Rattle.hw_lex.specs.Byte.{is_blank}

-- no line feed
abbrev pub is_in_line : ℕ → Bool
is_in_line byte = not (byte == 10)

-- the text is empty or begins with a line feed
abbrev pub EndsLine : List ℕ → Type 0
EndsLine [] = Unit {0}
EndsLine (byte ∷ _) = byte ≡ 10

-- the text begins with `*/`
abbrev pub is_closing : List ℕ → Bool
is_closing [] = false
is_closing (_ ∷ []) = false
is_closing (first ∷ second ∷ _) = first == 42 && second == 47

-- no `*/` stands in the text
abbrev pub is_open : List ℕ → Bool
is_open [] = true
is_open (byte ∷ bytes) = not (is_closing (byte ∷ bytes)) && is_open bytes

-- one blank or one comment stands at the front of the text, and then comes the rest. A comment is `//` up to the line's end,
-- or `/*` up to the first `*/`, so comments do not nest
pub data Space : List ℕ → List ℕ → Type 0 where
  blank : {byte : ℕ} {rest : List ℕ} → IsTrue (is_blank byte) → Space (byte ∷ rest) rest
  line : (inner : List ℕ) {rest : List ℕ} → IsTrue (list_all is_in_line inner) → EndsLine rest → Space (47 ∷ 47 ∷ (inner ++ rest)) rest
  block : (inner : List ℕ) {rest : List ℕ} → IsTrue (is_open (inner ++ 42 ∷ [])) → Space (47 ∷ 42 ∷ (inner ++ 42 ∷ 47 ∷ rest)) rest

-- any number of blanks and comments stand at the front of the text, and then comes the rest
pub data Gap : List ℕ → List ℕ → Type 0 where
  none : {text : List ℕ} → Gap text text
  more : {text mid rest : List ℕ} → Space text mid → Gap mid rest → Gap text rest
