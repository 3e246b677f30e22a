-- Classes of bytes and the marks, as the grammars of Filament (PLDI 2023) and Calyx (ASPLOS 2021) have them in this
-- project's profile; those of Filament with parameters are this project's own.
use Rattle.std.specs.Prelude.{ℕ, Bool, ◌||◌, ◌&&◌, ◌==◌, nat_le, List, [], ◌∷◌, codes, slice_index}
use Rattle.std.specs.List.{list_any}
use Rattle.hw_lex.specs.declared.token.Dialect.{Dialect}
use Rattle.hw_lex.specs.declared.token.Dialect.TheVariants.{Fil, Filp, Cal}

-- the byte is one of the bytes from low up to high, both included
abbrev pub is_between : ℕ → ℕ → ℕ → Bool
is_between low high byte = nat_le low byte && nat_le byte high

-- a letter of either case, or `_`
abbrev pub is_letter : ℕ → Bool
is_letter byte = is_between 65 90 byte || is_between 97 122 byte || byte == 95

-- a byte of a name after its first: a letter, `_` or a digit, and in Calyx also `$`
abbrev pub is_name_byte : Dialect → ℕ → Bool
is_name_byte Fil byte = is_letter byte || is_between 48 57 byte
is_name_byte Filp byte = is_letter byte || is_between 48 57 byte
is_name_byte Cal byte = is_letter byte || is_between 48 57 byte || byte == 36

-- space, tab, carriage return or line feed
abbrev pub is_blank : ℕ → Bool
is_blank byte = byte == 32 || byte == 9 || byte == 13 || byte == 10

-- the marks of one byte
abbrev pub single_marks : Dialect → List ℕ
single_marks Fil = codes "@[]()<>{},:;=+."
single_marks Filp = codes "@[]()<>{},:;=+.#*-"
single_marks Cal = codes "@[]()<>{},:;=.?!&|"

-- the marks of two bytes
abbrev pub double_marks : Dialect → List (List ℕ)
double_marks Fil = codes ":=" ∷ codes "->" ∷ []
double_marks Filp = codes ":=" ∷ codes "->" ∷ codes ".." ∷ codes "==" ∷ []
double_marks Cal = codes "==" ∷ codes "!=" ∷ codes "<=" ∷ codes ">=" ∷ codes "->" ∷ []

-- the byte alone is a mark
abbrev pub is_single_mark : Dialect → ℕ → Bool
is_single_mark dialect byte = list_any (λ mark. mark == byte) (single_marks dialect)

-- the two bytes together are a mark
abbrev pub is_double_mark : Dialect → ℕ → ℕ → Bool
is_double_mark dialect first second =
    list_any (λ mark. first == slice_index mark 0 && second == slice_index mark 1) (double_marks dialect)
