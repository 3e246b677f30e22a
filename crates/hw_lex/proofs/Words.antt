-- Tokens: what is computed at the front of a text is the longest that has the form of a token.
use Rattle.std.proofs.Common.{◌≡◌, ℕ, zero, suc, ◌+◌, ◌≤◌, ◌<◌, Bool, true, false, ◌||◌, ◌&&◌, not, cond, eqb, leb, List, [], ◌∷◌, ◌++◌, length, take, drop, Option, Some, None, ◌⊎◌, inl, inr, refl, sym, ap, subst, ◌∙◌, arith, append_assoc}
use Rattle.std.specs.Prelude.{slice_index}
use Rattle.std.specs.List.{prefix_len, list_all}
use Rattle.std.proofs.lemmas.Bool.{eqb-true, leb-true, false≢true}
use Rattle.std.proofs.lemmas.List.{take-append-drop, length-append, length-take}
use Rattle.std.proofs.lemmas.List.Folds.{length-prefix_len}
use Rattle.std.proofs.Math.Seq.{drop-append_seam, take-append_seam}
use Rattle.hw_lex.specs.declared.token.Dialect.{Dialect}
use Rattle.hw_lex.specs.declared.token.Dialect.TheVariants.{Fil, Filp, Cal}
use Rattle.hw_lex.specs.declared.token.Kind.{Kind}
use Rattle.hw_lex.specs.declared.token.Kind.TheVariants.{Name, Number, Literal, Text, Mark}
use Rattle.hw_lex.specs.declared.number.Base.{Base}
use Rattle.hw_lex.specs.declared.number.Base.TheVariants.{Binary, Octal, Decimal, Hexadecimal}
use Rattle.hw_lex.specs.Byte.{is_between, is_letter, is_blank, is_name_byte, single_marks, double_marks, is_single_mark, is_double_mark}
use Rattle.hw_lex.specs.Number.{is_digit, base_letter, base_of, value_in, value_by, quoted_value, width_of, value_of, Fits}
use Rattle.hw_lex.specs.Word.{IsDigits, IsName, IsLiteral, is_text_byte, IsText, is_mark, IsWord, Stands}
use Rattle.hw_lex.specs.Gap.{Space, blank, line, block}
use Rattle.hw_lex.specs.inside.Front.{based_len, literal_tail, numeral, closed_len, text_len, mark_len, if_any, front_word}
use Rattle.hw_lex.proofs.Fronts.{clash, Ends, by_test, and_true, or_true, not_true, run_passes, run_longest, run_ends, any_of}

-- ---- the first byte of a token

-- neither a letter, nor a digit, nor a double quote, and no blank or slash
abbrev is_other : ℕ → Bool
is_other byte = (not (is_letter byte) && not (is_digit Decimal byte)) && (not (eqb byte 34) && not (is_blank byte || eqb byte 47))

letter_no_digit : (byte : ℕ) → is_letter byte ≡ true → is_digit Decimal byte ≡ true → ⊥
letter_no_digit byte l d =
    let t = and_true (leb 48 byte) (leb byte 57) d in
    let low = leb-true 48 byte t.0 in
    let high = leb-true byte 57 t.1 in
    elim (or_true (is_between 65 90 byte || is_between 97 122 byte) (eqb byte 95) l) [
      | inl i ↦ elim (or_true (is_between 65 90 byte) (is_between 97 122 byte) i) [
        | inl j ↦ let u = leb-true 65 byte (and_true (leb 65 byte) (leb byte 90) j).0 in omega arith
        | inr j ↦ let u = leb-true 97 byte (and_true (leb 97 byte) (leb byte 122) j).0 in omega arith
      ]
      | inr i ↦ let u = eqb-true byte 95 i in omega arith
    ]

single_other : (dialect : Dialect) (byte : ℕ) → is_single_mark dialect byte ≡ true → is_other byte ≡ true
single_other Fil byte h =
    let m = any_of (λ m. eqb m byte) is_other (single_marks Fil) h refl in
    subst (λ (x : ℕ). is_other x ≡ true) (eqb-true m.0 byte m.1) m.2
single_other Filp byte h =
    let m = any_of (λ m. eqb m byte) is_other (single_marks Filp) h refl in
    subst (λ (x : ℕ). is_other x ≡ true) (eqb-true m.0 byte m.1) m.2
single_other Cal byte h =
    let m = any_of (λ m. eqb m byte) is_other (single_marks Cal) h refl in
    subst (λ (x : ℕ). is_other x ≡ true) (eqb-true m.0 byte m.1) m.2

abbrev is_pair : ℕ → ℕ → List ℕ → Bool
is_pair first second mark = eqb first (slice_index mark 0) && eqb second (slice_index mark 1)

double_other : (dialect : Dialect) (first second : ℕ) → is_double_mark dialect first second ≡ true → is_other first ≡ true
double_other Fil first second h =
    let m = any_of (is_pair first second) (λ m. is_other (slice_index m 0)) (double_marks Fil) h refl in
    let t = and_true (eqb first (slice_index m.0 0)) (eqb second (slice_index m.0 1)) m.1 in
    subst (λ (x : ℕ). is_other x ≡ true) (sym (eqb-true first (slice_index m.0 0) t.0)) m.2
double_other Filp first second h =
    let m = any_of (is_pair first second) (λ m. is_other (slice_index m 0)) (double_marks Filp) h refl in
    let t = and_true (eqb first (slice_index m.0 0)) (eqb second (slice_index m.0 1)) m.1 in
    subst (λ (x : ℕ). is_other x ≡ true) (sym (eqb-true first (slice_index m.0 0) t.0)) m.2
double_other Cal first second h =
    let m = any_of (is_pair first second) (λ m. is_other (slice_index m 0)) (double_marks Cal) h refl in
    let t = and_true (eqb first (slice_index m.0 0)) (eqb second (slice_index m.0 1)) m.1 in
    subst (λ (x : ℕ). is_other x ≡ true) (sym (eqb-true first (slice_index m.0 0) t.0)) m.2

mark_other : (dialect : Dialect) (byte : ℕ) (bytes : List ℕ) → is_mark dialect (byte ∷ bytes) ≡ true → is_other byte ≡ true
mark_other dialect byte [] h = single_other dialect byte h
mark_other dialect byte (second ∷ []) h = double_other dialect byte second h
mark_other dialect byte (second ∷ third ∷ bytes) h = absurd (false≢true h)

-- what the first byte of a token of each kind is
abbrev BeginsAs : Kind → ℕ → Type 0
BeginsAs Name byte = is_letter byte ≡ true
BeginsAs Number byte = is_digit Decimal byte ≡ true
BeginsAs Literal byte = is_digit Decimal byte ≡ true
BeginsAs Text byte = byte ≡ 34
BeginsAs Mark byte = is_other byte ≡ true

literal_begins : (byte : ℕ) (bytes width : List ℕ) (base : Base) (digits : List ℕ) → byte ∷ bytes ≡ width ++ 39 ∷ base_letter base ∷ digits → IsDigits Decimal width → is_digit Decimal byte ≡ true
literal_begins byte bytes [] base digits e w = absurd (omega (arith, w.0))
literal_begins byte bytes (first ∷ width) base digits e w =
    let same : byte ≡ first = cc in
    rw same (and_true (is_digit Decimal first) (list_all (is_digit Decimal) width) w.1).0

begins : (dialect : Dialect) (kind : Kind) (byte : ℕ) (bytes : List ℕ) → IsWord dialect kind (byte ∷ bytes) → BeginsAs kind byte
begins dialect Name byte bytes w = w.0
begins dialect Number byte bytes w = (and_true (is_digit Decimal byte) (list_all (is_digit Decimal) bytes) w.1).0
begins dialect Literal byte bytes w = literal_begins byte bytes w.width w.base w.digits w.parts w.of_width
begins dialect Text byte bytes w = let e = w.parts in let same : byte ≡ 34 = cc in same
begins dialect Mark byte bytes w = mark_other dialect byte bytes w

no_word : (dialect : Dialect) (kind : Kind) → IsWord dialect kind [] → ⊥
no_word dialect Name w = w
no_word dialect Number w = omega (arith, w.0)
no_word dialect Literal w = let e = ap length w.parts in absurd (omega (arith, e, length-append w.width (39 ∷ base_letter w.base ∷ w.digits)))
no_word dialect Text w = let e = w.parts in absurd cc
no_word dialect Mark w = false≢true w

other_parts : (byte : ℕ) → is_other byte ≡ true → (is_letter byte ≡ false) × (is_digit Decimal byte ≡ false) × (eqb byte 34 ≡ false)
other_parts byte h =
    let t = and_true (not (is_letter byte) && not (is_digit Decimal byte)) (not (eqb byte 34) && not (is_blank byte || eqb byte 47)) h in
    let u = and_true (not (is_letter byte)) (not (is_digit Decimal byte)) t.0 in
    let v = and_true (not (eqb byte 34)) (not (is_blank byte || eqb byte 47)) t.1 in
    (not_true _ u.0, not_true _ u.1, not_true _ v.0)

other_no_letter : (byte : ℕ) → is_other byte ≡ true → is_letter byte ≡ false
other_no_letter byte h = (other_parts byte h).0

other_no_digit : (byte : ℕ) → is_other byte ≡ true → is_digit Decimal byte ≡ false
other_no_digit byte h = (other_parts byte h).1

other_no_quote : (byte : ℕ) → is_other byte ≡ true → eqb byte 34 ≡ false
other_no_quote byte h = (other_parts byte h).2

-- ---- what is told at the front of a text

-- nothing at the front of the text has the form of a token
abbrev pub HasNoWord : Dialect → List ℕ → Type 0
HasNoWord dialect text = (kind : Kind) (front more : List ℕ) → text ≡ front ++ more → IsWord dialect kind front → ⊥

-- the longest bytes that have the form of a token are of this kind and length
pub record Front (dialect : Dialect) (kind : Kind) (len : ℕ) (text : List ℕ) : Type 0 where
  pub bytes : List ℕ
  pub rest : List ℕ
  pub parts : text ≡ bytes ++ rest
  pub size : length bytes ≡ len
  pub word : IsWord dialect kind bytes
  pub longest : (other : Kind) (front more : List ℕ) → text ≡ front ++ more → IsWord dialect other front → length front ≤ len

abbrev pub Told : Dialect → List ℕ → Kind × ℕ → Type 0
Told dialect text found = ((found.1 ≡ 0) × HasNoWord dialect text) ⊎ Front dialect found.0 found.1 text

-- a word at the front of a text that is not empty is not empty, and has the text's first byte
first_of : (dialect : Dialect) (kind : Kind) (byte : ℕ) (bytes front more : List ℕ) → byte ∷ bytes ≡ front ++ more → IsWord dialect kind front → (others : List ℕ) × (front ≡ byte ∷ others) × (bytes ≡ others ++ more) × BeginsAs kind byte
first_of dialect kind byte bytes [] more e w = absurd (no_word dialect kind w)
first_of dialect kind byte bytes (c ∷ front) more e w =
    let same : c ≡ byte = cc in
    let rest : bytes ≡ front ++ more = cc in
    (front, ap (λ (x : ℕ). x ∷ front) same, rest, subst (λ (x : ℕ). BeginsAs kind x) same (begins dialect kind c front w))

-- ---- names

digit_in_name : (dialect : Dialect) (byte : ℕ) → is_digit Decimal byte ≡ true → is_name_byte dialect byte ≡ true
digit_in_name Fil byte h = rw h (elim (is_letter byte) as (λ v. (v || true) ≡ true) [ true ↦ refl | false ↦ refl ])
digit_in_name Filp byte h = rw h (elim (is_letter byte) as (λ v. (v || true) ≡ true) [ true ↦ refl | false ↦ refl ])
digit_in_name Cal byte h = rw h (elim (is_letter byte) as (λ v. ((v || true) || eqb byte 36) ≡ true) [ true ↦ refl | false ↦ refl ])

name_longest : (dialect : Dialect) (byte : ℕ) (bytes : List ℕ) → is_letter byte ≡ true → (other : Kind) (front more : List ℕ) → byte ∷ bytes ≡ front ++ more → IsWord dialect other front → BeginsAs other byte → length front ≤ prefix_len (is_name_byte dialect) bytes + 1
name_longest dialect byte bytes h other [] more e w b = omega arith
name_longest dialect byte bytes h Name (c ∷ front) more e w b = let rest : bytes ≡ front ++ more = cc in let r = run_longest (is_name_byte dialect) bytes front more rest w.1 in omega arith
name_longest dialect byte bytes h Number (c ∷ front) more e w b = absurd (letter_no_digit byte h b)
name_longest dialect byte bytes h Literal (c ∷ front) more e w b = absurd (letter_no_digit byte h b)
name_longest dialect byte bytes h Text (c ∷ front) more e w b = absurd (false≢true (subst (λ (x : ℕ). is_letter x ≡ true) b h))
name_longest dialect byte bytes h Mark (c ∷ front) more e w b = absurd (clash h (other_no_letter byte b))

name_told : (dialect : Dialect) (byte : ℕ) (bytes : List ℕ) → is_letter byte ≡ true → Told dialect (byte ∷ bytes) (Name, prefix_len (is_name_byte dialect) bytes + 1)
name_told dialect byte bytes h =
    let p = is_name_byte dialect in
    inr (record {
      bytes = byte ∷ take (prefix_len p bytes) bytes;
      rest = drop (prefix_len p bytes) bytes;
      parts = ap (λ (x : List ℕ). byte ∷ x) (sym (take-append-drop (prefix_len p bytes) bytes));
      size = let k = length-prefix_len p bytes in omega arith;
      word = (h, run_passes p bytes);
      longest = λ other front more e w. name_longest dialect byte bytes h other front more e w (first_of dialect other byte bytes front more e w).3;
    })

-- ---- numbers and literals

positive : (n : ℕ) → 0 < n → eqb n 0 ≡ false
positive n h = by_test (λ v. eqb n 0 ≡ v → v ≡ false) (eqb n 0) (λ _ e. let z = eqb-true n 0 e in absurd (omega arith)) (λ _ e. refl) refl

zero_is : (n : ℕ) → eqb n 0 ≡ true → n ≡ 0
zero_is n e = eqb-true n 0 e

not_zero : (n : ℕ) → eqb n 0 ≡ false → 0 < n
not_zero zero e = absurd (false≢true (sym e))
not_zero (suc n) e = omega arith

base_of-base_letter : (base : Base) → base_of (base_letter base) ≡ Some base
base_of-base_letter Binary = refl
base_of-base_letter Octal = refl
base_of-base_letter Decimal = refl
base_of-base_letter Hexadecimal = refl

base_letter_is : (letter : ℕ) (base : Base) → base_of letter ≡ Some base → letter ≡ base_letter base
base_letter_is letter base e =
    by_test (λ v. cond v (Some Decimal) (cond (eqb letter 98) (Some Binary) (cond (eqb letter 111) (Some Octal) (cond (eqb letter 120) (Some Hexadecimal) None))) ≡ Some base → letter ≡ base_letter base) (eqb letter 100)
    (λ h e. let b : Decimal ≡ base = cc in eqb-true letter 100 h ∙ ap base_letter b)
    (λ _ e. by_test (λ v. cond v (Some Binary) (cond (eqb letter 111) (Some Octal) (cond (eqb letter 120) (Some Hexadecimal) None)) ≡ Some base → letter ≡ base_letter base) (eqb letter 98)
    (λ h e. let b : Binary ≡ base = cc in eqb-true letter 98 h ∙ ap base_letter b)
    (λ _ e. by_test (λ v. cond v (Some Octal) (cond (eqb letter 120) (Some Hexadecimal) None) ≡ Some base → letter ≡ base_letter base) (eqb letter 111)
    (λ h e. let b : Octal ≡ base = cc in eqb-true letter 111 h ∙ ap base_letter b)
    (λ _ e. by_test (λ v. cond v (Some Hexadecimal) None ≡ Some base → letter ≡ base_letter base) (eqb letter 120)
    (λ h e. let b : Hexadecimal ≡ base = cc in eqb-true letter 120 h ∙ ap base_letter b)
    (λ _ e. absurd cc)
    e)
    e)
    e)
    e

-- what follows the width of a literal
pub record IsTail (quoted : List ℕ) : Type 0 where
  pub base : Base
  pub digits : List ℕ
  pub rest : List ℕ
  pub parts : quoted ≡ 39 ∷ base_letter base ∷ (digits ++ rest)
  pub of_value : IsDigits base digits
  pub size : literal_tail quoted ≡ length digits + 2

based_told : (letter : ℕ) (found : Option Base) (digits : List ℕ) → base_of letter ≡ found → (based_len found digits ≡ 0) ⊎ IsTail (39 ∷ letter ∷ digits)
based_told letter None digits e = inl refl
based_told letter (Some base) digits e =
    let n = prefix_len (is_digit base) digits in
    by_test (λ v. (cond v 0 (n + 2) ≡ 0) ⊎ IsTail (39 ∷ letter ∷ digits)) (eqb n 0)
    (λ h. inl refl)
    (λ h. inr (record {
      base = base;
      digits = take n digits;
      rest = drop n digits;
      parts = rw (base_letter_is letter base e, take-append-drop n digits) refl;
      of_value = let k = length-prefix_len (is_digit base) digits in let m = not_zero n h in (omega arith, run_passes (is_digit base) digits);
      size = let k = length-prefix_len (is_digit base) digits in rw (e, h, k) refl;
    }))

tail_told : (quoted : List ℕ) → (literal_tail quoted ≡ 0) ⊎ IsTail quoted
tail_told [] = inl refl
tail_told (quote ∷ []) = inl refl
tail_told (quote ∷ letter ∷ digits) =
    by_test (λ v. (cond v (based_len (base_of letter) digits) 0 ≡ 0) ⊎ IsTail (quote ∷ letter ∷ digits)) (eqb quote 39)
    (λ h. let q : quote ≡ 39 = eqb-true quote 39 h in rw q (based_told letter (base_of letter) digits refl))
    (λ h. inl refl)

tail_long : (base : Base) (digits more : List ℕ) → IsDigits base digits → length digits + 2 ≤ literal_tail (39 ∷ base_letter base ∷ (digits ++ more))
tail_long base digits more d =
    let n = prefix_len (is_digit base) (digits ++ more) in
    let r = run_longest (is_digit base) (digits ++ more) digits more refl d.1 in
    let p : 0 < n = omega (arith, r, d.0) in
    rw (base_of-base_letter base, positive n p) (omega arith)

-- a literal at the front of a text
literal_long : (text front more : List ℕ) → text ≡ front ++ more → IsLiteral front → (length front ≤ prefix_len (is_digit Decimal) text + literal_tail (drop (prefix_len (is_digit Decimal) text) text)) × (0 < literal_tail (drop (prefix_len (is_digit Decimal) text) text))
literal_long text front more e w =
    let after = 39 ∷ base_letter w.base ∷ (w.digits ++ more) in
    let whole : text ≡ w.width ++ after = e ∙ ap (λ (x : List ℕ). x ++ more) w.parts ∙ append_assoc w.width (39 ∷ base_letter w.base ∷ w.digits) more in
    let n : prefix_len (is_digit Decimal) text ≡ length w.width = ap (prefix_len (is_digit Decimal)) whole ∙ run_ends (is_digit Decimal) w.width after w.of_width.1 refl in
    let q : drop (prefix_len (is_digit Decimal) text) text ≡ after = ap (λ (x : ℕ). drop x text) n ∙ ap (λ (x : List ℕ). drop (length w.width) x) whole ∙ drop-append_seam w.width after in
    let t = tail_long w.base w.digits more w.of_value in
    let s : length front ≡ length w.width + (length w.digits + 2) = ap length w.parts ∙ length-append w.width (39 ∷ base_letter w.base ∷ w.digits) ∙ omega arith in
    rw (q, n) (omega (arith, t, s), omega (arith, t))

numeral_longest : (dialect : Dialect) (byte : ℕ) (bytes : List ℕ) (len : ℕ) → is_letter byte ≡ false → is_digit Decimal byte ≡ true
    → prefix_len (is_digit Decimal) (byte ∷ bytes) ≤ len
    → ((front more : List ℕ) → byte ∷ bytes ≡ front ++ more → IsLiteral front → length front ≤ len)
    → (other : Kind) (front more : List ℕ) → byte ∷ bytes ≡ front ++ more → IsWord dialect other front → BeginsAs other byte → length front ≤ len
numeral_longest dialect byte bytes len l d size lit Name front more e w b = absurd (clash b l)
numeral_longest dialect byte bytes len l d size lit Number front more e w b = let r = run_longest (is_digit Decimal) (byte ∷ bytes) front more e w.1 in omega (arith, r, size)
numeral_longest dialect byte bytes len l d size lit Literal front more e w b = lit front more e w
numeral_longest dialect byte bytes len l d size lit Text front more e w b = absurd (false≢true (subst (λ (x : ℕ). is_digit Decimal x ≡ true) b d))
numeral_longest dialect byte bytes len l d size lit Mark front more e w b = absurd (clash d (other_no_digit byte b))

digit_count : (byte : ℕ) (bytes : List ℕ) → is_digit Decimal byte ≡ true → 0 < prefix_len (is_digit Decimal) (byte ∷ bytes)
digit_count byte bytes d = rw d (omega arith)

number_told : (dialect : Dialect) (byte : ℕ) (bytes : List ℕ) → is_letter byte ≡ false → is_digit Decimal byte ≡ true
    → literal_tail (drop (prefix_len (is_digit Decimal) (byte ∷ bytes)) (byte ∷ bytes)) ≡ 0
    → Front dialect Number (prefix_len (is_digit Decimal) (byte ∷ bytes)) (byte ∷ bytes)
number_told dialect byte bytes l d none =
    let text = byte ∷ bytes in
    let n = prefix_len (is_digit Decimal) text in
    let k = length-prefix_len (is_digit Decimal) text in
    let p = digit_count byte bytes d in
    record {
      bytes = take n text;
      rest = drop n text;
      parts = sym (take-append-drop n text);
      size = k;
      word = (rw k p, run_passes (is_digit Decimal) text);
      longest = λ other front more e w.
          numeral_longest dialect byte bytes n l d (omega arith) (λ front more e w. let long = literal_long text front more e w in absurd (omega (arith, long.1, none)))
          other front more e w (first_of dialect other byte bytes front more e w).3;
    }

literal_told : (dialect : Dialect) (byte : ℕ) (bytes : List ℕ) → is_letter byte ≡ false → is_digit Decimal byte ≡ true
    → IsTail (drop (prefix_len (is_digit Decimal) (byte ∷ bytes)) (byte ∷ bytes))
    → Front dialect Literal (prefix_len (is_digit Decimal) (byte ∷ bytes) + literal_tail (drop (prefix_len (is_digit Decimal) (byte ∷ bytes)) (byte ∷ bytes))) (byte ∷ bytes)
literal_told dialect byte bytes l d tail =
    let text = byte ∷ bytes in
    let n = prefix_len (is_digit Decimal) text in
    let k = length-prefix_len (is_digit Decimal) text in
    let p = digit_count byte bytes d in
    let quoted = 39 ∷ base_letter tail.base ∷ tail.digits in
    let whole : text ≡ take n text ++ (quoted ++ tail.rest) = sym (take-append-drop n text) ∙ ap (λ (x : List ℕ). take n text ++ x) tail.parts in
    record {
      bytes = take n text ++ quoted;
      rest = tail.rest;
      parts = whole ∙ sym (append_assoc (take n text) quoted tail.rest);
      size = let s = length-append (take n text) quoted in let t = tail.size in omega (arith, s, t, k);
      word = record {
        width = take n text;
        base = tail.base;
        digits = tail.digits;
        parts = refl;
        of_width = (rw k p, run_passes (is_digit Decimal) text);
        of_value = tail.of_value;
      };
      longest = λ other front more e w.
          numeral_longest dialect byte bytes (n + literal_tail (drop n text)) l d (omega arith) (λ front more e w. (literal_long text front more e w).0)
          other front more e w (first_of dialect other byte bytes front more e w).3;
    }

numeral_told : (dialect : Dialect) (byte : ℕ) (bytes : List ℕ) → is_letter byte ≡ false → is_digit Decimal byte ≡ true → Told dialect (byte ∷ bytes) (numeral (byte ∷ bytes))
numeral_told dialect byte bytes l d =
    let text = byte ∷ bytes in
    let n = prefix_len (is_digit Decimal) text in
    let tail = literal_tail (drop n text) in
    by_test (λ v. Told dialect text (cond v (Number, n) (Literal, n + tail))) (eqb tail 0)
    (λ h. inr (number_told dialect byte bytes l d (zero_is tail h)))
    (λ h. elim (tail_told (drop n text)) as (λ _. Told dialect text (Literal, n + tail)) [
      | inl none ↦ let p = not_zero tail h in absurd (omega (arith, none))
      | inr t ↦ inr (literal_told dialect byte bytes l d t)
    ])

-- ---- texts in double quotes

text_size : (bytes front more : List ℕ) → 34 ∷ bytes ≡ front ++ more → IsText front → (text_len bytes ≡ length front) × (0 < length front)
text_size bytes front more e w =
    let whole : 34 ∷ bytes ≡ 34 ∷ (w.inner ++ (34 ∷ more)) = e ∙ ap (λ (x : List ℕ). x ++ more) w.parts ∙ ap (λ (x : List ℕ). 34 ∷ x) (append_assoc w.inner (34 ∷ []) more) in
    let inside : bytes ≡ w.inner ++ (34 ∷ more) = cc in
    let n : prefix_len is_text_byte bytes ≡ length w.inner = ap (prefix_len is_text_byte) inside ∙ run_ends is_text_byte w.inner (34 ∷ more) w.of_inner refl in
    let q : drop (prefix_len is_text_byte bytes) bytes ≡ 34 ∷ more = ap (λ (x : ℕ). drop x bytes) n ∙ ap (λ (x : List ℕ). drop (length w.inner) x) inside ∙ drop-append_seam w.inner (34 ∷ more) in
    let s : length front ≡ length w.inner + 2 = ap length w.parts ∙ ap (λ (x : ℕ). suc x) (length-append w.inner (34 ∷ [])) ∙ omega arith in
    (rw (q, n, s) refl, omega arith)

text_only : (dialect : Dialect) (bytes : List ℕ) (other : Kind) (front more : List ℕ) → 34 ∷ bytes ≡ front ++ more → IsWord dialect other front → BeginsAs other 34 → (text_len bytes ≡ length front) × (0 < length front)
text_only dialect bytes Name front more e w b = absurd (false≢true b)
text_only dialect bytes Number front more e w b = absurd (false≢true b)
text_only dialect bytes Literal front more e w b = absurd (false≢true b)
text_only dialect bytes Text front more e w b = text_size bytes front more e w
text_only dialect bytes Mark front more e w b = absurd (false≢true b)

closed_told : (count : ℕ) (rest : List ℕ) → (closed_len count rest ≡ 0) ⊎ ((more : List ℕ) × (rest ≡ 34 ∷ more) × (closed_len count rest ≡ count + 2))
closed_told count [] = inl refl
closed_told count (byte ∷ more) =
    by_test (λ v. (cond v (count + 2) 0 ≡ 0) ⊎ ((more' : List ℕ) × (byte ∷ more ≡ 34 ∷ more') × (cond v (count + 2) 0 ≡ count + 2))) (eqb byte 34)
    (λ h. inr (more, ap (λ (x : ℕ). x ∷ more) (eqb-true byte 34 h), refl))
    (λ h. inl refl)

text_told : (dialect : Dialect) (bytes : List ℕ) → Told dialect (34 ∷ bytes) (Text, text_len bytes)
text_told dialect bytes =
    let n = prefix_len is_text_byte bytes in
    elim (closed_told n (drop n bytes)) as (λ _. Told dialect (34 ∷ bytes) (Text, text_len bytes)) [
      | inl z ↦ inl (z, λ kind front more e w. let t = text_only dialect bytes kind front more e w (first_of dialect kind 34 bytes front more e w).3 in absurd (omega (arith, t.0, t.1, z)))
      | inr c ↦ inr (record {
        bytes = 34 ∷ (take n bytes ++ 34 ∷ []);
        rest = c.0;
        parts = ap (λ (x : List ℕ). 34 ∷ x) (sym (take-append-drop n bytes) ∙ ap (λ (x : List ℕ). take n bytes ++ x) c.1 ∙ sym (append_assoc (take n bytes) (34 ∷ []) c.0));
        size = let s = length-append (take n bytes) (34 ∷ []) in let k = length-prefix_len is_text_byte bytes in let t = c.2 in omega (arith, s, k, t);
        word = record { inner = take n bytes; parts = refl; of_inner = run_passes is_text_byte bytes };
        longest = λ other front more e w. let t = text_only dialect bytes other front more e w (first_of dialect other 34 bytes front more e w).3 in omega (arith, t.0);
      })
    ]

-- ---- marks

mark_long : (dialect : Dialect) (byte : ℕ) (bytes front more : List ℕ) → byte ∷ bytes ≡ front ++ more → is_mark dialect front ≡ true → (length front ≤ mark_len dialect (byte ∷ bytes)) × (0 < mark_len dialect (byte ∷ bytes))
mark_long dialect byte bytes [] more e h = absurd (false≢true h)
mark_long dialect byte [] (c ∷ []) more e h =
    let same : c ≡ byte = cc in
    let s : is_single_mark dialect byte ≡ true = subst (λ (x : ℕ). is_single_mark dialect x ≡ true) same h in
    rw s (omega arith, omega arith)
mark_long dialect byte (second ∷ bytes) (c ∷ []) more e h =
    let same : c ≡ byte = cc in
    let s : is_single_mark dialect byte ≡ true = subst (λ (x : ℕ). is_single_mark dialect x ≡ true) same h in
    by_test (λ v. (1 ≤ cond v 2 (cond (is_single_mark dialect byte) 1 0)) × (0 < cond v 2 (cond (is_single_mark dialect byte) 1 0))) (is_double_mark dialect byte second)
    (λ _. (omega arith, omega arith))
    (λ _. rw s (omega arith, omega arith))
mark_long dialect byte [] (c ∷ d ∷ []) more e h = absurd cc
mark_long dialect byte (second ∷ bytes) (c ∷ d ∷ []) more e h =
    let same : c ≡ byte = cc in
    let same2 : d ≡ second = cc in
    let s : is_double_mark dialect byte second ≡ true = subst (λ (x : ℕ). is_double_mark dialect x second ≡ true) same (subst (λ (x : ℕ). is_double_mark dialect c x ≡ true) same2 h) in
    rw s (omega arith, omega arith)
mark_long dialect byte bytes (c ∷ d ∷ f ∷ front) more e h = absurd (false≢true h)

mark_only : (dialect : Dialect) (byte : ℕ) (bytes : List ℕ) → is_letter byte ≡ false → is_digit Decimal byte ≡ false → eqb byte 34 ≡ false → (other : Kind) (front more : List ℕ) → byte ∷ bytes ≡ front ++ more → IsWord dialect other front → BeginsAs other byte → (length front ≤ mark_len dialect (byte ∷ bytes)) × (0 < mark_len dialect (byte ∷ bytes))
mark_only dialect byte bytes l d q Name front more e w b = absurd (clash b l)
mark_only dialect byte bytes l d q Number front more e w b = absurd (clash b d)
mark_only dialect byte bytes l d q Literal front more e w b = absurd (clash b d)
mark_only dialect byte bytes l d q Text front more e w b = absurd (false≢true (sym q ∙ ap (λ (x : ℕ). eqb x 34) b))
mark_only dialect byte bytes l d q Mark front more e w b = mark_long dialect byte bytes front more e w

abbrev MarkAt : Dialect → ℕ → List ℕ → ℕ → Type 0
MarkAt dialect byte bytes len = (len ≡ 0) ⊎ ((front : List ℕ) × (rest : List ℕ) × (byte ∷ bytes ≡ front ++ rest) × (length front ≡ len) × (is_mark dialect front ≡ true))

single_at : (dialect : Dialect) (byte : ℕ) (bytes : List ℕ) → MarkAt dialect byte bytes (cond (is_single_mark dialect byte) 1 0)
single_at dialect byte bytes =
    by_test (λ v. MarkAt dialect byte bytes (cond v 1 0)) (is_single_mark dialect byte)
    (λ h. inr (byte ∷ [], bytes, refl, refl, h))
    (λ h. inl refl)

mark_at : (dialect : Dialect) (byte : ℕ) (bytes : List ℕ) → MarkAt dialect byte bytes (mark_len dialect (byte ∷ bytes))
mark_at dialect byte [] = single_at dialect byte []
mark_at dialect byte (second ∷ bytes) =
    by_test (λ v. MarkAt dialect byte (second ∷ bytes) (cond v 2 (cond (is_single_mark dialect byte) 1 0))) (is_double_mark dialect byte second)
    (λ h. inr (byte ∷ second ∷ [], bytes, refl, refl, h))
    (λ h. single_at dialect byte (second ∷ bytes))

mark_told : (dialect : Dialect) (byte : ℕ) (bytes : List ℕ) → is_letter byte ≡ false → is_digit Decimal byte ≡ false → eqb byte 34 ≡ false → Told dialect (byte ∷ bytes) (Mark, mark_len dialect (byte ∷ bytes))
mark_told dialect byte bytes l d q =
    elim (mark_at dialect byte bytes) as (λ _. Told dialect (byte ∷ bytes) (Mark, mark_len dialect (byte ∷ bytes))) [
      | inl z ↦ inl (z, λ kind front more e w. let t = mark_only dialect byte bytes l d q kind front more e w (first_of dialect kind byte bytes front more e w).3 in absurd (omega (arith, t.1, z)))
      | inr m ↦ inr (record {
        bytes = m.0;
        rest = m.1;
        parts = m.2;
        size = m.3;
        word = m.4;
        longest = λ other front more e w. (mark_only dialect byte bytes l d q other front more e w (first_of dialect other byte bytes front more e w).3).0;
      })
    ]

-- ---- all kinds

abbrev pub FrontTold : Dialect → List ℕ → Option (Kind × ℕ) → Type 0
FrontTold dialect text None = HasNoWord dialect text
FrontTold dialect text (Some found) = Front dialect found.0 found.1 text × (0 < found.1)

empty_is : (xs : List ℕ) → length xs ≡ 0 → xs ≡ []
empty_is [] h = refl
empty_is (x ∷ xs) h = absurd (omega arith)

told_any : (dialect : Dialect) (text : List ℕ) (found : Kind × ℕ) → Told dialect text found → FrontTold dialect text (if_any found)
told_any dialect text found (inl t) = rw t.0 t.1
told_any dialect text found (inr f) =
    by_test (λ v. FrontTold dialect text (cond v None (Some found))) (eqb found.1 0)
    (λ h. let z = zero_is found.1 h in absurd (no_word dialect found.0 (subst (λ (x : List ℕ). IsWord dialect found.0 x) (empty_is f.bytes (f.size ∙ z)) f.word)))
    (λ h. (f, not_zero found.1 h))

pub front_told : (dialect : Dialect) (text : List ℕ) → FrontTold dialect text (front_word dialect text)
front_told dialect [] = λ kind front more e w. elim front as (λ front. [] ≡ front ++ more → IsWord dialect kind front → ⊥) [
  | [] ↦ λ e w. no_word dialect kind w
  | c ∷ front ↦ λ e w. absurd cc
] e w
front_told dialect (byte ∷ bytes) =
    told_any dialect (byte ∷ bytes) _
    (by_test (λ v. Told dialect (byte ∷ bytes) (cond v (Name, prefix_len (is_name_byte dialect) bytes + 1) (cond (is_digit Decimal byte) (numeral (byte ∷ bytes)) (cond (eqb byte 34) (Text, text_len bytes) (Mark, mark_len dialect (byte ∷ bytes)))))) (is_letter byte)
    (λ l. name_told dialect byte bytes l)
    (λ l. by_test (λ v. Told dialect (byte ∷ bytes) (cond v (numeral (byte ∷ bytes)) (cond (eqb byte 34) (Text, text_len bytes) (Mark, mark_len dialect (byte ∷ bytes))))) (is_digit Decimal byte)
    (λ d. numeral_told dialect byte bytes l d)
    (λ d. by_test (λ v. Told dialect (byte ∷ bytes) (cond v (Text, text_len bytes) (Mark, mark_len dialect (byte ∷ bytes)))) (eqb byte 34)
    (λ q. let same : byte ≡ 34 = eqb-true byte 34 q in rw same (text_told dialect bytes))
    (λ q. mark_told dialect byte bytes l d q))))

-- ---- at most one token

-- the kind that bytes in the form of a token have
abbrev kind_of : List ℕ → Kind
kind_of [] = Mark
kind_of (byte ∷ bytes) =
    cond (is_letter byte) Name (cond (is_digit Decimal byte) (cond (list_all (is_digit Decimal) (byte ∷ bytes)) Number Literal) (cond (eqb byte 34) Text Mark))

quote_inside : (width rest : List ℕ) → list_all (is_digit Decimal) (width ++ 39 ∷ rest) ≡ false
quote_inside [] rest = refl
quote_inside (byte ∷ width) rest = rw (quote_inside width rest) (elim (is_digit Decimal byte) as (λ v. (v && false) ≡ false) [ true ↦ refl | false ↦ refl ])

digit_no_letter : (byte : ℕ) → is_digit Decimal byte ≡ true → is_letter byte ≡ false
digit_no_letter byte d = by_test (λ v. is_letter byte ≡ v → v ≡ false) (is_letter byte) (λ _ e. absurd (letter_no_digit byte e d)) (λ _ e. refl) refl

kind_is : (dialect : Dialect) (kind : Kind) (bytes : List ℕ) → IsWord dialect kind bytes → kind_of bytes ≡ kind
kind_is dialect kind [] w = absurd (no_word dialect kind w)
kind_is dialect Name (byte ∷ bytes) w = rw w.0 refl
kind_is dialect Number (byte ∷ bytes) w = let d = begins dialect Number byte bytes w in rw (digit_no_letter byte d, d, (and_true (is_digit Decimal byte) (list_all (is_digit Decimal) bytes) w.1).1) refl
kind_is dialect Literal (byte ∷ bytes) w =
    let d = begins dialect Literal byte bytes w in
    let all : list_all (is_digit Decimal) (byte ∷ bytes) ≡ false = ap (list_all (is_digit Decimal)) w.parts ∙ quote_inside w.width (base_letter w.base ∷ w.digits) in
    rw (digit_no_letter byte d, all, d) refl
kind_is dialect Text (byte ∷ bytes) w = let q = begins dialect Text byte bytes w in rw q refl
kind_is dialect Mark (byte ∷ bytes) w = let o = begins dialect Mark byte bytes w in rw (other_no_letter byte o, other_no_digit byte o, other_no_quote byte o) refl

same_front : (a b x y : List ℕ) → a ++ x ≡ b ++ y → length a ≡ length b → (a ≡ b) × (x ≡ y)
same_front [] [] x y e n = (refl, e)
same_front [] (c ∷ b) x y e n = absurd (omega arith)
same_front (c ∷ a) [] x y e n = absurd (omega arith)
same_front (c ∷ a) (d ∷ b) x y e n =
    let first : c ≡ d = cc in
    let others : a ++ x ≡ b ++ y = cc in
    let m : length a ≡ length b = omega arith in
    let r = same_front a b x y others m in
    (rw (first, r.0) refl, r.1)

below_both : (a b : ℕ) → a ≤ b → b ≤ a → a ≡ b
below_both a b p q = omega arith

pub Stands-unique : (dialect : Dialect) (k l : Kind) (text a b : List ℕ) → Stands dialect k text a → Stands dialect l text b → (k ≡ l) × (a ≡ b)
Stands-unique dialect k l text a b s t =
    let p = t.longest k s.bytes a s.parts s.word in
    let q = s.longest l t.bytes b t.parts t.word in
    let r = same_front s.bytes t.bytes a b (sym s.parts ∙ t.parts) (below_both _ _ p q) in
    (sym (kind_is dialect k s.bytes s.word) ∙ ap kind_of r.0 ∙ kind_is dialect l t.bytes t.word, r.1)

pub Stands-longer : (dialect : Dialect) (kind : Kind) (text rest : List ℕ) → Stands dialect kind text rest → length rest < length text
Stands-longer dialect kind text rest s =
    by_test (λ v. eqb (length s.bytes) 0 ≡ v → length rest < length text) (eqb (length s.bytes) 0)
    (λ _ z. absurd (no_word dialect kind (subst (λ (x : List ℕ). IsWord dialect kind x) (empty_is s.bytes (zero_is _ z)) s.word)))
    (λ _ z. let p = not_zero _ z in omega (arith, p, length-append s.bytes rest, ap length s.parts))
    refl

-- no token begins with a byte that is of none of the classes
begins_not : (byte : ℕ) → is_letter byte ≡ false → is_digit Decimal byte ≡ false → eqb byte 34 ≡ false → is_other byte ≡ false → (kind : Kind) → BeginsAs kind byte → ⊥
begins_not byte l d q o Name b = clash b l
begins_not byte l d q o Number b = clash b d
begins_not byte l d q o Literal b = clash b d
begins_not byte l d q o Text b = false≢true (sym q ∙ ap (λ (x : ℕ). eqb x 34) b)
begins_not byte l d q o Mark b = clash b o

blank_begins_not : (byte : ℕ) → is_blank byte ≡ true → (kind : Kind) → BeginsAs kind byte → ⊥
blank_begins_not byte h kind b =
    let is = λ (x : ℕ) (e : byte ≡ x). subst (λ (x : ℕ). BeginsAs kind x) e b in
    elim (or_true ((eqb byte 32 || eqb byte 9) || eqb byte 13) (eqb byte 10) h) [
      | inl i ↦ elim (or_true (eqb byte 32 || eqb byte 9) (eqb byte 13) i) [
        | inl j ↦ elim (or_true (eqb byte 32) (eqb byte 9) j) [
          | inl k ↦ begins_not 32 refl refl refl refl kind (is 32 (eqb-true byte 32 k))
          | inr k ↦ begins_not 9 refl refl refl refl kind (is 9 (eqb-true byte 9 k))
        ]
        | inr j ↦ begins_not 13 refl refl refl refl kind (is 13 (eqb-true byte 13 j))
      ]
      | inr i ↦ begins_not 10 refl refl refl refl kind (is 10 (eqb-true byte 10 i))
    ]

-- no blank or comment stands where something has the form of a token
pub Space-no_word : (dialect : Dialect) (kind : Kind) (text rest front more : List ℕ) → Space text rest → text ≡ front ++ more → IsWord dialect kind front → ⊥
Space-no_word dialect kind text rest front more (blank {byte = byte} h) e w = blank_begins_not byte h kind (first_of dialect kind byte rest front more e w).3
Space-no_word dialect kind text rest front more (line inner h l) e w = begins_not 47 refl refl refl refl kind (first_of dialect kind 47 (47 ∷ (inner ++ rest)) front more e w).3
Space-no_word dialect kind text rest front more (block inner h) e w = begins_not 47 refl refl refl refl kind (first_of dialect kind 47 (42 ∷ (inner ++ 42 ∷ 47 ∷ rest)) front more e w).3

pub Stands-no_space : (dialect : Dialect) (kind : Kind) (text after : List ℕ) → Stands dialect kind text after → (rest : List ℕ) → Space text rest → ⊥
Stands-no_space dialect kind text after s rest space = Space-no_word dialect kind text rest s.bytes after space s.parts s.word

-- ---- the token at the front, from what is computed

pub front_none : (dialect : Dialect) (text : List ℕ) → front_word dialect text ≡ None → (kind : Kind) (rest : List ℕ) → Stands dialect kind text rest → ⊥
front_none dialect text e kind rest s =
    let told : HasNoWord dialect text = subst (λ (o : Option (Kind × ℕ)). FrontTold dialect text o) e (front_told dialect text) in
    told kind s.bytes rest s.parts s.word

pub front_parts : (dialect : Dialect) (kind : Kind) (len : ℕ) (text : List ℕ) → (f : Front dialect kind len text) → (take len text ≡ f.bytes) × (drop len text ≡ f.rest)
front_parts dialect kind len text f =
    let n : length (take len text) ≡ length f.bytes = omega (arith, f.size, length-take len text, length-append f.bytes f.rest, ap length f.parts) in
    same_front (take len text) f.bytes (drop len text) f.rest (take-append-drop len text ∙ f.parts) n

pub front_some : (dialect : Dialect) (text : List ℕ) (kind : Kind) (len : ℕ) → front_word dialect text ≡ Some (kind, len) → Fits kind (take len text) → Stands dialect kind text (drop len text) × (0 < len)
front_some dialect text kind len e fits =
    let told : Front dialect kind len text × (0 < len) = subst (λ (o : Option (Kind × ℕ)). FrontTold dialect text o) e (front_told dialect text) in
    let f = told.0 in
    let p = front_parts dialect kind len text f in (
      record {
        bytes = f.bytes;
        parts = rw p.1 f.parts;
        word = f.word;
        longest = λ other front more e w. rw f.size (f.longest other front more e w);
        fits = subst (λ (x : List ℕ). Fits kind x) p.0 fits;
      },
      told.1,
    )

pub front_large : (dialect : Dialect) (text : List ℕ) (kind : Kind) (len : ℕ) → front_word dialect text ≡ Some (kind, len) → (Fits kind (take len text) → ⊥) → (other : Kind) (rest : List ℕ) → Stands dialect other text rest → ⊥
front_large dialect text kind len e large other rest s =
    let told : Front dialect kind len text × (0 < len) = subst (λ (o : Option (Kind × ℕ)). FrontTold dialect text o) e (front_told dialect text) in
    let f = told.0 in
    let p = front_parts dialect kind len text f in
    let a = f.longest other s.bytes rest s.parts s.word in
    let b = s.longest kind f.bytes f.rest f.parts f.word in
    let n : length s.bytes ≡ length f.bytes = omega (arith, a, b, f.size) in
    let r = same_front s.bytes f.bytes rest f.rest (sym s.parts ∙ f.parts) n in
    let k : other ≡ kind = sym (kind_is dialect other s.bytes s.word) ∙ ap kind_of r.0 ∙ kind_is dialect kind f.bytes f.word in
    let bytes : s.bytes ≡ take len text = r.0 ∙ sym p.0 in
    large (subst (λ (x : Kind). Fits x (take len text)) k (subst (λ (x : List ℕ). Fits other x) bytes s.fits))

-- ---- what is written

-- bytes in the form of a token, after which no longer ones have it, are that token
pub stands_by : (dialect : Dialect) (kind : Kind) (bytes rest : List ℕ) → Fits kind bytes → front_word dialect (bytes ++ rest) ≡ Some (kind, length bytes) → Stands dialect kind (bytes ++ rest) rest
stands_by dialect kind bytes rest fits e =
    let n : take (length bytes) (bytes ++ rest) ≡ bytes = take-append_seam bytes rest in
    let s = front_some dialect (bytes ++ rest) kind (length bytes) e (subst (λ (x : List ℕ). Fits kind x) (sym n) fits) in
    subst (λ (x : List ℕ). Stands dialect kind (bytes ++ rest) x) (drop-append_seam bytes rest) s.0

-- a name, after which no byte of a name comes
pub name_stands : (dialect : Dialect) (first : ℕ) (others rest : List ℕ) → IsName dialect (first ∷ others) → Ends (is_name_byte dialect) rest → Stands dialect Name (first ∷ (others ++ rest)) rest
name_stands dialect first others rest name ends =
    let n : prefix_len (is_name_byte dialect) (others ++ rest) ≡ length others = run_ends (is_name_byte dialect) others rest name.1 ends in
    let k : length others + 1 ≡ suc (length others) = omega arith in
    let z : eqb (suc (length others)) 0 ≡ false = positive (suc (length others)) (omega arith) in
    stands_by dialect Name (first ∷ others) rest tt (rw (name.0, n, k, z) refl)

-- the width and the value of a literal are what its digits spell
pub literal_numbers : (bytes : List ℕ) (literal : IsLiteral bytes) → (width_of bytes ≡ value_in Decimal literal.width) × (value_of bytes ≡ value_in literal.base literal.digits)
literal_numbers bytes l =
    let after = 39 ∷ base_letter l.base ∷ l.digits in
    let n : prefix_len (is_digit Decimal) bytes ≡ length l.width = ap (prefix_len (is_digit Decimal)) l.parts ∙ run_ends (is_digit Decimal) l.width after l.of_width.1 refl in
    let w : take (prefix_len (is_digit Decimal) bytes) bytes ≡ l.width = ap (λ (x : ℕ). take x bytes) n ∙ ap (λ (x : List ℕ). take (length l.width) x) l.parts ∙ take-append_seam l.width after in
    let q : drop (prefix_len (is_digit Decimal) bytes) bytes ≡ after = ap (λ (x : ℕ). drop x bytes) n ∙ ap (λ (x : List ℕ). drop (length l.width) x) l.parts ∙ drop-append_seam l.width after in
    (ap (value_in Decimal) w, ap quoted_value q ∙ ap (λ (o : Option Base). value_by o l.digits) (base_of-base_letter l.base))

-- digits, after which neither a digit nor a quote comes
abbrev pub goes_on_a_number : ℕ → Bool
goes_on_a_number byte = is_digit Decimal byte || eqb byte 39

ends_left : (p q : ℕ → Bool) (rest : List ℕ) → Ends (λ byte. p byte || q byte) rest → Ends p rest
ends_left p q [] h = tt
ends_left p q (byte ∷ rest) h = by_test (λ v. (v || q byte) ≡ false → v ≡ false) (p byte) (λ _ h. absurd (false≢true (sym h))) (λ _ h. refl) h

no_tail : (rest : List ℕ) → Ends goes_on_a_number rest → literal_tail rest ≡ 0
no_tail [] h = refl
no_tail (quote ∷ []) h = refl
no_tail (quote ∷ letter ∷ digits) h =
    let q : eqb quote 39 ≡ false = by_test (λ v. (v || eqb quote 39) ≡ false → eqb quote 39 ≡ false) (is_digit Decimal quote) (λ _ h. absurd (false≢true (sym h))) (λ _ h. h) h in
    rw q refl

front_digit : (dialect : Dialect) (first : ℕ) (others : List ℕ) → is_letter first ≡ false → is_digit Decimal first ≡ true → front_word dialect (first ∷ others) ≡ if_any (numeral (first ∷ others))
front_digit dialect first others l d = rw (l, d) refl

some_any : (kind : Kind) (len : ℕ) → 0 < len → if_any (kind, len) ≡ Some (kind, len)
some_any kind len lt = rw (positive len lt) refl

pub number_stands : (dialect : Dialect) (first : ℕ) (others rest : List ℕ) → IsDigits Decimal (first ∷ others) → Fits Number (first ∷ others) → Ends goes_on_a_number rest → Stands dialect Number (first ∷ (others ++ rest)) rest
number_stands dialect first others rest digits fits ends =
    let d = (and_true (is_digit Decimal first) (list_all (is_digit Decimal) others) digits.1).0 in
    let n : prefix_len (is_digit Decimal) ((first ∷ others) ++ rest) ≡ length (first ∷ others) = run_ends (is_digit Decimal) (first ∷ others) rest digits.1 (ends_left (is_digit Decimal) (λ byte. eqb byte 39) rest ends) in
    let text = (first ∷ others) ++ rest in
    let tail : literal_tail (drop (prefix_len (is_digit Decimal) text) text) ≡ 0 = ap (λ (x : ℕ). literal_tail (drop x text)) n ∙ ap literal_tail (drop-append_seam (first ∷ others) rest) ∙ no_tail rest ends in
    let found : numeral text ≡ (Number, length (first ∷ others)) = rw (tail, n) refl in
    let word : front_word dialect text ≡ Some (Number, length (first ∷ others)) = front_digit dialect first (others ++ rest) (digit_no_letter first d) d ∙ ap if_any found ∙ some_any Number (length (first ∷ others)) (omega arith) in
    stands_by dialect Number (first ∷ others) rest fits word

-- a literal, after which no digit of its base comes
pub literal_stands : (dialect : Dialect) (first : ℕ) (others : List ℕ) (base : Base) (digits rest : List ℕ) → IsDigits Decimal (first ∷ others) → IsDigits base digits
    → Fits Literal (first ∷ (others ++ 39 ∷ base_letter base ∷ digits)) → Ends (is_digit base) rest
    → Stands dialect Literal ((first ∷ (others ++ 39 ∷ base_letter base ∷ digits)) ++ rest) rest
literal_stands dialect first others base digits rest width value fits ends =
    let d = (and_true (is_digit Decimal first) (list_all (is_digit Decimal) others) width.1).0 in
    let word = first ∷ (others ++ 39 ∷ base_letter base ∷ digits) in
    let text = word ++ rest in
    let after = 39 ∷ base_letter base ∷ (digits ++ rest) in
    let whole : text ≡ (first ∷ others) ++ after = append_assoc (first ∷ others) (39 ∷ base_letter base ∷ digits) rest in
    let n : prefix_len (is_digit Decimal) text ≡ length (first ∷ others) = ap (prefix_len (is_digit Decimal)) whole ∙ run_ends (is_digit Decimal) (first ∷ others) after width.1 refl in
    let q : drop (prefix_len (is_digit Decimal) text) text ≡ after = ap (λ (x : ℕ). drop x text) n ∙ ap (λ (x : List ℕ). drop (length (first ∷ others)) x) whole ∙ drop-append_seam (first ∷ others) after in
    let count : prefix_len (is_digit base) (digits ++ rest) ≡ length digits = run_ends (is_digit base) digits rest value.1 ends in
    let based : literal_tail after ≡ length digits + 2 = rw (base_of-base_letter base, count, positive (length digits) value.0) refl in
    let tail : literal_tail (drop (prefix_len (is_digit Decimal) text) text) ≡ length digits + 2 = ap literal_tail q ∙ based in
    let size : length (first ∷ others) + (length digits + 2) ≡ length word = omega (arith, length-append others (39 ∷ base_letter base ∷ digits)) in
    let found : numeral text ≡ (Literal, length word) = rw (tail, n, positive (length digits + 2) (omega arith)) (ap (λ (x : ℕ). (Literal, x)) size) in
    stands_by dialect Literal word rest fits (front_digit dialect first ((others ++ 39 ∷ base_letter base ∷ digits) ++ rest) (digit_no_letter first d) d ∙ ap if_any found ∙ some_any Literal (length word) (omega arith))

front_other : (dialect : Dialect) (first : ℕ) (others : List ℕ) → is_letter first ≡ false → is_digit Decimal first ≡ false → eqb first 34 ≡ false → front_word dialect (first ∷ others) ≡ if_any (Mark, mark_len dialect (first ∷ others))
front_other dialect first others l d q = rw (l, d, q) refl

single_len : (dialect : Dialect) (mark : ℕ) (rest : List ℕ) → is_single_mark dialect mark ≡ true → Ends (is_double_mark dialect mark) rest → mark_len dialect (mark ∷ rest) ≡ 1
single_len dialect mark [] s e = rw s refl
single_len dialect mark (next ∷ rest) s e = rw (e, s) refl

-- a mark of one byte, with whose next byte it is none of two
pub single_stands : (dialect : Dialect) (mark : ℕ) (rest : List ℕ) → is_single_mark dialect mark ≡ true → Ends (is_double_mark dialect mark) rest → Stands dialect Mark (mark ∷ rest) rest
single_stands dialect mark rest s ends =
    let o = other_parts mark (single_other dialect mark s) in
    stands_by dialect Mark (mark ∷ []) rest tt (front_other dialect mark rest o.0 o.1 o.2 ∙ ap (λ (x : ℕ). if_any (Mark, x)) (single_len dialect mark rest s ends) ∙ some_any Mark 1 (omega arith))

-- a mark of two bytes
pub double_stands : (dialect : Dialect) (first second : ℕ) (rest : List ℕ) → is_double_mark dialect first second ≡ true → Stands dialect Mark (first ∷ second ∷ rest) rest
double_stands dialect first second rest h =
    let o = other_parts first (double_other dialect first second h) in
    let two : mark_len dialect (first ∷ second ∷ rest) ≡ 2 = rw h refl in
    stands_by dialect Mark (first ∷ second ∷ []) rest tt (front_other dialect first (second ∷ rest) o.0 o.1 o.2 ∙ ap (λ (x : ℕ). if_any (Mark, x)) two ∙ some_any Mark 2 (omega arith))
