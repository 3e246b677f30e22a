-- Names that lowering makes are names of Calyx's grammar: `c$`, and bytes that a name may have.
use Rattle.std.proofs.Common.{◌≡◌, ℕ, zero, suc, ◌+◌, ◌/◌, ◌%◌, ◌<◌, ◌==◌, nat_lt, Bool, true, false, ◌||◌, ◌&&◌, [], ◌∷◌, ◌++◌, if◌then◌else◌, refl, sym, subst, arith, lit<}
use Rattle.std.specs.Prelude.{codes}
use Rattle.std.specs.Fmt.{decimal, digits, digit_glyph, digits_onto}
use Rattle.std.specs.List.{list_all}
use Rattle.std.proofs.lemmas.Bool.{and_parts, false≢true, lt-ltb}
use Rattle.std.proofs.lemmas.Bool.Decides.{Decides-ltb, nat_tests}
use Rattle.hw_names.specs.Name.{Text}
use Rattle.hw_lex.specs.Byte.{is_between, is_letter, is_name_byte}
use Rattle.hw_lex.specs.declared.token.Dialect.TheVariants.{Cal}
use Rattle.net_core.specs.declared.net.Src.TheVariants.{Lit}
use Rattle.cal_ast.specs.Written.{IsCalName, SourceIsWritten}
use Rattle.cal_group.specs.inside.Expanded.{invoke_name}
use Rattle.cal_group.specs.inside.Numeral.{digits_within, numeral}

-- the bytes can follow the first one of a name
abbrev pub HasNameBytes : Text → Type 0
HasNameBytes bytes = list_all (is_name_byte Cal) bytes ≡ true

-- ---- tests

pub both_are : (a b : Bool) → a ≡ true → b ≡ true → (a && b) ≡ true
both_are a b is_a is_b = rw (is_a, is_b) refl

first_is : (a b e : Bool) → a ≡ true → (a || b || e) ≡ true
first_is a b e is = rw is refl

second_is : (a b e : Bool) → b ≡ true → (a || b || e) ≡ true
second_is true b e is = refl
second_is false true e is = refl
second_is false false e is = absurd (false≢true is)

-- ---- bytes

letter_byte : (c : ℕ) → is_letter c ≡ true → is_name_byte Cal c ≡ true
letter_byte c is = first_is (is_letter c) (is_between 48 57 c) (c == 36) is

is_digit_byte : (d : ℕ) → d < 10 → is_between 48 57 (48 + d) ≡ true
is_digit_byte d small = grind (arith, nat_tests)

digit_byte : (d : ℕ) → d < 10 → is_name_byte Cal (48 + d) ≡ true
digit_byte d small = second_is (is_letter (48 + d)) (is_between 48 57 (48 + d)) ((48 + d) == 36) (is_digit_byte d small)

pub name_bytes : (name : Text) → IsCalName name → HasNameBytes name
name_bytes [] is = absurd is.0
name_bytes (c ∷ cs) is = both_are (is_name_byte Cal c) (list_all (is_name_byte Cal) cs) (letter_byte c is.0.0) is.0.1

bytes_append : (xs ys : Text) → HasNameBytes xs → HasNameBytes ys → HasNameBytes (xs ++ ys)
bytes_append [] ys first later = later
bytes_append (x ∷ xs) ys first later =
    let parts = and_parts (is_name_byte Cal x) (list_all (is_name_byte Cal) xs) first in
    both_are (is_name_byte Cal x) (list_all (is_name_byte Cal) (xs ++ ys)) parts.0 (bytes_append xs ys parts.1 later)

bytes_chosen : (b : Bool) (xs ys : Text) → HasNameBytes xs → HasNameBytes ys → HasNameBytes (if b then xs else ys)
bytes_chosen true xs ys first later = first
bytes_chosen false xs ys first later = later

-- ---- digits

glyph_is : (d : ℕ) → d < 10 → digit_glyph false d ≡ 48 + d
glyph_is d small = rw (lt-ltb d 10 small) refl

glyph_byte : (d : ℕ) → d < 10 → is_name_byte Cal (digit_glyph false d) ≡ true
glyph_byte d small = subst (λ (byte : ℕ). is_name_byte Cal byte ≡ true) (sym (glyph_is d small)) (digit_byte d small)

digits_bytes : (k n : ℕ) (others : Text) → HasNameBytes others → HasNameBytes (digits_onto k 10 false n others)
digits_bytes zero n others are = are
digits_bytes (suc k) n others are =
    let digit = digit_glyph false (n % 10) in
    let longer : HasNameBytes (digit ∷ others) = both_are (is_name_byte Cal digit) (list_all (is_name_byte Cal) others) (glyph_byte (n % 10) (omega arith)) are in
    bytes_chosen (n / 10 == 0) (digit ∷ others) (digits_onto k 10 false (n / 10) (digit ∷ others)) longer (digits_bytes k (n / 10) (digit ∷ others) longer)

pub decimal_bytes : (n : ℕ) → HasNameBytes (decimal n)
unfolding digits
decimal_bytes n = digits_bytes 64 n [] refl

within_bytes : (more n : ℕ) → HasNameBytes (digits_within more n)
within_bytes zero n = refl
within_bytes (suc more) n = by (nat_lt n 10) refl (within_bytes more (n / 10))
  where
    by : (b : Bool) → nat_lt n 10 ≡ b → HasNameBytes (digits_within more (n / 10)) → HasNameBytes (if b then (48 + n) ∷ [] else digits_within more (n / 10) ++ (48 + n % 10) ∷ [])
    by true is shorter = both_are (is_name_byte Cal (48 + n)) true (digit_byte n ((Decides-ltb n 10).0 is)) refl
    by false is shorter =
        bytes_append (digits_within more (n / 10)) ((48 + n % 10) ∷ []) shorter
        (both_are (is_name_byte Cal (48 + n % 10)) true (digit_byte (n % 10) (omega arith)) refl)

numeral_bytes : (n : ℕ) → HasNameBytes (numeral n)
unfolding numeral
numeral_bytes n = within_bytes (n + 1) n

-- ---- names

-- no keyword starts with `c$`
pub made_name : (tail : Text) → HasNameBytes tail → IsCalName (99 ∷ 36 ∷ tail)
made_name tail are = ((refl, are), refl)

pub invoke_named : (item : ℕ) → IsCalName (invoke_name item)
invoke_named item = made_name (codes "invoke" ++ numeral item) (numeral_bytes item)

pub in_named : IsCalName (codes "in")
in_named = ((refl, refl), refl)

pub out_named : IsCalName (codes "out")
out_named = ((refl, refl), refl)

pub enable_named : IsCalName (codes "write_en")
enable_named = ((refl, refl), refl)

pub go_named : IsCalName (codes "go")
go_named = ((refl, refl), refl)

pub done_pin_named : IsCalName (codes "done")
done_pin_named = ((refl, refl), refl)

-- ---- numbers

pub one_written : SourceIsWritten (Lit 1 1)
one_written = (lit< tt, lit< tt)
