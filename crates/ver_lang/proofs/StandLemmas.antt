-- Where the word of a token ends: no longer bytes are a token's, by the byte that follows.
use Rattle.std.proofs.Common.{◌≡◌, ℕ, ◌<◌, ◌&&◌, ◌||◌, Bool, true, false, List, [], ◌∷◌, ◌++◌, length, refl, sym, ap, ◌∙◌, inl, inr, arith}
use Rattle.std.proofs.lemmas.Bool.{cases_lt}
use Rattle.std.proofs.lemmas.Bool.Decides.{nat_tests}
use Rattle.std.proofs.lemmas.List.{length-append}
use Rattle.std.proofs.lemmas.List.Folds.{list_all-append}
use Rattle.std.proofs.lemmas.Slice.Eq.{bytes_eq-Decides}
use Rattle.std.specs.Fmt.{decimal}
use Rattle.std.specs.List.{list_all, list_any}
use Rattle.std.specs.Prelude.{◌==◌, not, nat_lt, bytes_eq, codes}
use Rattle.hw_names.specs.Name.{Text}
use Rattle.ver_lang.specs.Layout.{is_number, is_written, word_of}
use Rattle.ver_lang.specs.Token.{Token, Keyword, Mark, Escaped, Number, Sized, IsEscaped, IsSized, IsWordOf, Stands, is_digit, is_letter, is_name_byte, is_one_of, is_plain_name, is_printed, is_white, marks}
use Rattle.ver_lang.proofs.NumeralLemmas.{numeral}

both_true : (a b : Bool) → (a && b) ≡ true → (a ≡ true) × (b ≡ true)
both_true true b h = (refl, h)
both_true false b h = absurd (cc)

-- ---- texts

first_of : ℕ → Text → ℕ
first_of none [] = none
first_of none (c ∷ cs) = c

rest_of : Text → Text
rest_of [] = []
rest_of (c ∷ cs) = cs

-- of two texts with one whole, the longer begins with the shorter
pub longer_at : (word rest longer more : Text) → word ++ rest ≡ longer ++ more → length word < length longer →
    (c : ℕ) × (tail : Text) × (longer ≡ word ++ c ∷ tail) × (rest ≡ c ∷ (tail ++ more))
unfolding first_of rest_of
longer_at [] rest (c ∷ tail) more is lt = (c, tail, refl, is)
longer_at [] rest [] more is lt = absurd (omega (arith, lt))
longer_at (w ∷ ws) rest [] more is lt = absurd (omega (arith, lt))
longer_at (w ∷ ws) rest (l ∷ ls) more is lt =
    let first : w ≡ l = ap (first_of 0) is in
    let found = longer_at ws rest ls more (ap rest_of is) (omega (arith, lt)) in
    (found.0, found.1, ap (λ (t : Text). l ∷ t) found.2 ∙ ap (λ (b : ℕ). b ∷ (ws ++ found.0 ∷ found.1)) (sym first), found.3)

-- a byte within bytes that all pass
within : (p : ℕ → Bool) (front : Text) (c : ℕ) (tail : Text) → list_all p (front ++ c ∷ tail) ≡ true → p c ≡ true
within p front c tail all = (both_true (p c) (list_all p tail) (both_true (list_all p front) (p c && list_all p tail) (sym (list_all-append p front (c ∷ tail)) ∙ all)).1).0

-- what all texts of a list pass, one of them does
passes_by : (p : Text → Bool) (t text : Text) (same : Bool) → bytes_eq text t ≡ same → p t ≡ true → (same ≡ false → p text ≡ true) → p text ≡ true
passes_by p t text true same first others = ap p ((bytes_eq-Decides text t).0 same) ∙ first
passes_by p t text false same first others = others refl

pub passes : (p : Text → Bool) (texts : List Text) (text : Text) → is_one_of texts text ≡ true → list_all p texts ≡ true → p text ≡ true
passes p [] text is all = absurd (cc)
passes p (t ∷ ts) text is all =
    let parts = both_true (p t) (list_all p ts) all in
    passes_by p t text (bytes_eq text t) refl parts.0
    (λ differ. passes p ts text (ap (λ (b : Bool). b || list_any (bytes_eq text) ts) (sym differ) ∙ is) parts.1)

-- ---- the bytes of words

-- a byte of a number with a size
abbrev is_sized_byte : ℕ → Bool
is_sized_byte byte = is_digit byte || byte == 39 || byte == 100

-- a byte that no mark has
abbrev is_free : ℕ → Bool
is_free byte = is_white byte || is_letter byte || is_digit byte || byte == 92

wider : (p q : ℕ → Bool) (text : Text) → ((c : ℕ) → p c ≡ true → q c ≡ true) → list_all p text ≡ true → list_all q text ≡ true
wider p q [] more all = refl
wider p q (c ∷ cs) more all =
    let parts = both_true (p c) (list_all p cs) all in
    rw (more c parts.0) (wider p q cs more parts.1)

letter_is : (c : ℕ) → is_letter c ≡ true → is_name_byte c ≡ true
letter_is c is = rw is refl

plain_bytes : (text : Text) → is_plain_name text ≡ true → list_all is_name_byte text ≡ true
plain_bytes [] is = refl
plain_bytes (c ∷ cs) is =
    let parts = both_true (is_letter c) (list_all is_name_byte cs) is in
    rw (letter_is c parts.0) parts.1

digit_is : (c : ℕ) → is_digit c ≡ true → is_sized_byte c ≡ true
digit_is c is = rw is refl

sized_bytes : (width value : ℕ) (word : Text) → IsSized width value word → list_all is_sized_byte word ≡ true
sized_bytes width value word is =
    let size = wider is_digit is_sized_byte is.size digit_is is.of_size.1 in
    let digits = wider is_digit is_sized_byte is.digits digit_is is.of_digits.1 in
    ap (list_all is_sized_byte) is.parts ∙ list_all-append is_sized_byte (is.size ++ codes "'d") is.digits
    ∙ ap (λ (b : Bool). b && list_all is_sized_byte is.digits) (list_all-append is_sized_byte is.size (codes "'d")) ∙ rw (size, digits) refl

-- the marks' bytes
abbrev has_no_free : Text → Bool
has_no_free text = list_all (λ byte. not (is_free byte)) text

mark_bytes : (text : Text) → is_one_of marks text ≡ true → has_no_free text ≡ true
mark_bytes text is = passes has_no_free marks text is refl

-- ---- the bytes of a token are its own

pub word_is : (t : Token) → is_written t ≡ true → IsWordOf t (word_of t)
word_is (Keyword text) is = (is, refl)
word_is (Mark text) is = (is, refl)
word_is (Escaped name) is =
    let parts = both_true (nat_lt 0 (length name)) (list_all is_printed name) is in
    let some : 0 < length name = grind (arith, nat_tests) in
    record { some = some; printed = parts.1; white = 32; ends = refl; parts = refl }
word_is (Number n) is = let digits = numeral n is in ((digits.some, digits.digits), sym digits.value)
word_is (Sized width value) is =
    let parts = both_true (is_number width) (is_number value) is in
    let size = numeral width parts.0 in
    let digits = numeral value parts.1 in
    record {
      size = decimal width;
      digits = decimal value;
      of_size = (size.some, size.digits);
      of_digits = (digits.some, digits.digits);
      width_is = sym size.value;
      value_is = sym digits.value;
      parts = refl;
    }

-- ---- where a word ends

-- no token's bytes begin with the word and this byte
pub Ends : Token → ℕ → Type 0
Ends t c = (other : Token) (longer tail : Text) → IsWordOf other longer → longer ≡ word_of t ++ c ∷ tail → ⊥

pub stands_before : (t : Token) (c : ℕ) (rest : Text) → is_written t ≡ true → Ends t c → Stands t (word_of t ++ c ∷ rest) (c ∷ rest)
unfolding Ends first_of
stands_before t c rest is ends = record {
  word = word_of t;
  is_word = word_is t is;
  parts = refl;
  longest = λ other longer more is_other same.
      elim (cases_lt (length (word_of t)) (length longer)) [
        | inl lt ↦
            let found = longer_at (word_of t) (c ∷ rest) longer more same lt in
            let byte : c ≡ found.0 = ap (first_of 0) found.3 in
            absurd (ends other longer found.1 is_other (found.2 ∙ ap (λ (b : ℕ). word_of t ++ b ∷ found.1) (sym byte)))
        | inr le ↦ le
      ];
}

-- a token that isn't an escaped name
abbrev pub is_name : Token → Bool
is_name (Escaped name) = true
is_name token = false

-- a text that begins with a byte that is no backslash
pub record Begins (text : Text) : Type 0 where
  pub byte : ℕ
  pub others : Text
  pub parts : text ≡ byte ∷ others
  pub other : (byte == 92) ≡ false

digits_begin : (text : Text) → 0 < length text → list_all is_digit text ≡ true → Begins text
digits_begin [] some digits = absurd (omega (arith, some))
digits_begin (c ∷ cs) some digits =
    let first : is_digit c ≡ true = (both_true (is_digit c) (list_all is_digit cs) digits).0 in
    let no_backslash : (c == 92) ≡ false = grind (arith, nat_tests) in
    record { byte = c; others = cs; parts = refl; other = no_backslash }

mark_begins : (text : Text) → is_one_of marks text ≡ true → Begins text
mark_begins [] is = absurd (cc)
mark_begins (c ∷ cs) is =
    let free : not (is_free c) ≡ true = (both_true (not (is_free c)) (has_no_free cs) (mark_bytes (c ∷ cs) is)).0 in
    let no_backslash : (c == 92) ≡ false = grind (arith, nat_tests) in
    record { byte = c; others = cs; parts = refl; other = no_backslash }

token_begins : (t : Token) → is_written t ≡ true → is_name t ≡ false → Begins (word_of t)
token_begins (Keyword []) is no_name = absurd (cc)
token_begins (Keyword (c ∷ cs)) is no_name =
    let first : is_letter c ≡ true = (both_true (is_letter c) (list_all is_name_byte cs) is).0 in
    let no_backslash : (c == 92) ≡ false = grind (arith, nat_tests) in
    record { byte = c; others = cs; parts = refl; other = no_backslash }
token_begins (Mark text) is no_name = mark_begins text is
token_begins (Escaped name) is no_name = absurd (cc)
token_begins (Number n) is no_name = let digits = numeral n is in digits_begin (decimal n) digits.some digits.digits
token_begins (Sized width value) is no_name =
    let size = numeral width (both_true (is_number width) (is_number value) is).0 in
    let begins = digits_begin (decimal width) size.some size.digits in
    record { byte = begins.byte; others = begins.others ++ codes "'d" ++ decimal value; parts = ap (λ (t : Text). t ++ codes "'d" ++ decimal value) begins.parts; other = begins.other }

-- an escaped name doesn't begin as another token does
not_escaped : (t : Token) (c : ℕ) (tail name longer : Text) → is_written t ≡ true → is_name t ≡ false → IsEscaped name longer → longer ≡ word_of t ++ c ∷ tail → ⊥
unfolding first_of
not_escaped t c tail name longer is no_name escaped same =
    let begins = token_begins t is no_name in
    let whole : 92 ∷ (name ++ escaped.white ∷ []) ≡ begins.byte ∷ (begins.others ++ c ∷ tail) = sym escaped.parts ∙ same ∙ ap (λ (t : Text). t ++ c ∷ tail) begins.parts in
    let first : 92 ≡ begins.byte = ap (first_of 0) whole in
    let differ : (92 == 92) ≡ false = ap (λ (b : ℕ). b == 92) first ∙ begins.other in
    absurd (cc)

-- one escaped name doesn't begin with another
names_end : (name other : Text) (c white : ℕ) (tail : Text) → list_all is_printed other ≡ true → other ++ white ∷ [] ≡ (name ++ 32 ∷ []) ++ c ∷ tail → ⊥
unfolding first_of rest_of
names_end [] [] c white tail printed same = absurd (cc)
names_end [] (p ∷ ps) c white tail printed same =
    let first : p ≡ 32 = ap (first_of 0) same in
    let shown : is_printed p ≡ true = (both_true (is_printed p) (list_all is_printed ps) printed).0 in
    let shown_space : is_printed 32 ≡ true = ap is_printed (sym first) ∙ shown in
    absurd (cc)
names_end (n ∷ ns) [] c white tail printed same =
    let lengths : 0 ≡ length ((ns ++ 32 ∷ []) ++ c ∷ tail) = ap (λ (t : Text). length (rest_of t)) same in
    absurd (omega (arith, lengths, length-append (ns ++ 32 ∷ []) (c ∷ tail)))
names_end (n ∷ ns) (p ∷ ps) c white tail printed same =
    names_end ns ps c white tail (both_true (is_printed p) (list_all is_printed ps) printed).1 (ap rest_of same)

-- the word of an escaped name ends with its white space, whatever follows
pub name_ends : (name : Text) (c : ℕ) → Ends (Escaped name) c
unfolding Ends rest_of
name_ends name c (Keyword text) longer tail is same =
    let plain : is_plain_name (92 ∷ ((name ++ 32 ∷ []) ++ c ∷ tail)) ≡ true = ap is_plain_name (sym same ∙ is.1) ∙ is.0 in
    absurd (cc)
name_ends name c (Mark text) longer tail is same =
    let bytes : has_no_free (92 ∷ ((name ++ 32 ∷ []) ++ c ∷ tail)) ≡ true = ap has_no_free (sym same ∙ is.1) ∙ mark_bytes text is.0 in
    absurd (cc)
name_ends name c (Number n) longer tail is same =
    let digits : list_all is_digit (92 ∷ ((name ++ 32 ∷ []) ++ c ∷ tail)) ≡ true = ap (list_all is_digit) (sym same) ∙ is.0.1 in
    absurd (cc)
name_ends name c (Sized width value) longer tail is same =
    let bytes : list_all is_sized_byte (92 ∷ ((name ++ 32 ∷ []) ++ c ∷ tail)) ≡ true = ap (list_all is_sized_byte) (sym same) ∙ sized_bytes width value longer is in
    absurd (cc)
name_ends name c (Escaped other) longer tail is same = names_end name other c is.white tail is.printed (ap rest_of (sym is.parts ∙ same))

-- any other word ends before a byte that no mark, no plain name and no number has
pub word_ends : (t : Token) (c : ℕ) → is_written t ≡ true → is_name t ≡ false → is_free c ≡ true → is_name_byte c ≡ false → is_sized_byte c ≡ false → Ends t c
unfolding Ends
word_ends t c is no_name free no_letter no_digit (Keyword text) longer tail word same =
    let byte : is_name_byte c ≡ true = within is_name_byte (word_of t) c tail (ap (list_all is_name_byte) (sym same ∙ word.1) ∙ plain_bytes text word.0) in
    absurd (cc)
word_ends t c is no_name free no_letter no_digit (Mark text) longer tail word same =
    let byte : not (is_free c) ≡ true = within (λ (b : ℕ). not (is_free b)) (word_of t) c tail (ap has_no_free (sym same ∙ word.1) ∙ mark_bytes text word.0) in
    let other : not true ≡ true = ap not (sym free) ∙ byte in
    absurd (cc)
word_ends t c is no_name free no_letter no_digit (Number n) longer tail word same =
    let byte : is_digit c ≡ true = within is_digit (word_of t) c tail (ap (list_all is_digit) (sym same) ∙ word.0.1) in
    let more : is_sized_byte c ≡ true = digit_is c byte in
    absurd (cc)
word_ends t c is no_name free no_letter no_digit (Sized width value) longer tail word same =
    let byte : is_sized_byte c ≡ true = within is_sized_byte (word_of t) c tail (ap (list_all is_sized_byte) (sym same) ∙ sized_bytes width value longer word) in
    absurd (cc)
word_ends t c is no_name free no_letter no_digit (Escaped name) longer tail word same = not_escaped t c tail name longer is no_name word same
