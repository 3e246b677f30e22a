-- Names, numbers in decimal digits and literals as fragments.
use Rattle.std.proofs.Common.{◌≡◌, ℕ, ◌+◌, ◌*◌, ◌/◌, ◌%◌, ◌<◌, ◌≤◌, Bool, true, false, ◌||◌, ◌&&◌, eqb, List, [], ◌∷◌, ◌++◌, refl, sym, ap, subst, ◌∙◌, arith, unwrap_or, Option}
use Rattle.std.specs.Fmt.{decimal}
use Rattle.std.specs.List.{list_all}
use Rattle.std.proofs.lemmas.Bool.{false≢true}
use Rattle.std.proofs.lemmas.Bool.Decides.{nat_tests}
use Rattle.std.proofs.lemmas.List.{length-append}
use Rattle.std.proofs.lemmas.Fmt.{decimal_by_steps_wide}
use Rattle.hw_names.specs.Name.{Text}
use Rattle.hw_lex.specs.declared.token.Dialect.{Dialect}
use Rattle.hw_lex.specs.declared.token.Dialect.TheVariants.{Fil, Filp, Cal}
use Rattle.hw_lex.specs.declared.token.Kind.TheVariants as kinds
use Rattle.hw_lex.specs.declared.number.Base.{Base}
use Rattle.hw_lex.specs.declared.number.Base.TheVariants.{Decimal}
use Rattle.hw_lex.specs.Byte.{is_letter, is_between, is_name_byte}
use Rattle.hw_lex.specs.Number.{radix, is_digit, digit_value, value_from, number_of, width_of, value_of, Fits}
use Rattle.hw_lex.specs.Word.{IsDigits, IsLiteral, Stands}
use Rattle.hw_lex.proofs.Fronts.{Ends, by_test}
use Rattle.hw_lex.proofs.Words.{name_stands, number_stands, literal_stands, literal_numbers, goes_on_a_number}
use Rattle.hw_grammar.specs.declared.sort.Sort.{Sort}
use Rattle.hw_grammar.specs.declared.sort.Sort.TheVariants as sorts
use Rattle.hw_grammar.specs.declared.terminal.Terminal.{Terminal}
use Rattle.hw_grammar.specs.Grammar.{AnyWord, AnyNumber, AnyLiteral}
use Rattle.hw_grammar.specs.Words.{IsNameOf, IsWritten}
use Rattle.hw_grammar.proofs.Alike.{named}
use Rattle.hw_grammar.proofs.Fragments.{Word, is_loose, Fragment}

-- ---- digits

value_from-append : (base : Base) (value : ℕ) (ds es : List ℕ) → value_from base value (ds ++ es) ≡ value_from base (value_from base value ds) es
value_from-append base value [] es = refl
value_from-append base value (d ∷ ds) es = value_from-append base (value * radix base + digit_value d) ds es

all_append : (p : ℕ → Bool) (xs ys : List ℕ) → list_all p xs ≡ true → list_all p ys ≡ true → list_all p (xs ++ ys) ≡ true
all_append p [] ys h k = k
all_append p (x ∷ xs) ys h k = by_test (λ v. (v && list_all p xs) ≡ true → (v && list_all p (xs ++ ys)) ≡ true) (p x) (λ _ h. all_append p xs ys h k) (λ _ h. absurd (false≢true h)) h

one_digit : (d : ℕ) → d < 10 → (is_digit Decimal (48 + d) ≡ true) × (digit_value (48 + d) ≡ d)
one_digit d small =
    let digit : is_digit Decimal (48 + d) ≡ true = grind (arith, nat_tests) in
    let value : digit_value (48 + d) ≡ d = grind (arith, nat_tests) in
    (digit, value)

-- decimal digits of a number
pub record IsText (n : ℕ) (ds : List ℕ) : Type 0 where
  pub digits : IsDigits Decimal ds
  pub value : number_of ds ≡ n

one_text : (n : ℕ) → n < 10 → IsText n ((48 + n) ∷ [])
one_text n small =
    let d = one_digit n small in
    record { digits = (omega arith, rw d.0 refl); value = let z : 0 * 10 + n ≡ n = omega arith in ap (λ (v : ℕ). 0 * 10 + v) d.1 ∙ z }

more_text : (n : ℕ) (ds : List ℕ) → 10 ≤ n → IsText (n / 10) ds → IsText n (ds ++ ((48 + n % 10) ∷ []))
more_text n ds large t =
    let d = one_digit (n % 10) (omega arith) in
    record {
      digits = (omega (arith, length-append ds ((48 + n % 10) ∷ [])), all_append (is_digit Decimal) ds ((48 + n % 10) ∷ []) t.digits.1 (rw d.0 refl));
      value =
          let whole : (n / 10) * 10 + n % 10 ≡ n = omega arith in
          value_from-append Decimal 0 ds ((48 + n % 10) ∷ []) ∙ ap (λ (v : ℕ). v * 10 + digit_value (48 + n % 10)) t.value ∙ ap (λ (v : ℕ). (n / 10) * 10 + v) d.1 ∙ whole;
    }

pub decimal_text : (n : ℕ) → IsWritten n → IsText n (decimal n)
decimal_text n w = decimal_by_steps_wide IsText one_text more_text n (omega (arith, w))

-- ---- what ends a word

ends_within : (p q : ℕ → Bool) → ((b : ℕ) → p b ≡ true → q b ≡ true) → (xs : List ℕ) → Ends q xs → Ends p xs
ends_within p q h [] e = tt
ends_within p q h (x ∷ xs) e = by_test (λ v. p x ≡ v → v ≡ false) (p x) (λ _ y. absurd (false≢true (sym e ∙ h x y))) (λ _ _. refl) refl

or_left : (a b : Bool) → a ≡ true → (a || b) ≡ true
or_left a b h = rw h refl

or_right : (a b : Bool) → b ≡ true → (a || b) ≡ true
or_right true b h = refl
or_right false b h = h

digit_in_name : (dialect : Dialect) (byte : ℕ) → is_digit Decimal byte ≡ true → is_name_byte dialect byte ≡ true
digit_in_name Fil byte h = or_right (is_letter byte) (is_between 48 57 byte) h
digit_in_name Filp byte h = or_right (is_letter byte) (is_between 48 57 byte) h
digit_in_name Cal byte h = or_left (is_letter byte || is_between 48 57 byte) (eqb byte 36) (or_right (is_letter byte) (is_between 48 57 byte) h)

digit_loose : (dialect : Dialect) (byte : ℕ) → is_digit Decimal byte ≡ true → is_loose dialect byte ≡ true
digit_loose dialect byte h = or_left (is_name_byte dialect byte) (eqb byte 39) (digit_in_name dialect byte h)

number_loose : (dialect : Dialect) (byte : ℕ) → goes_on_a_number byte ≡ true → is_loose dialect byte ≡ true
number_loose dialect byte h =
    by_test (λ v. is_digit Decimal byte ≡ v → (v || eqb byte 39) ≡ true → is_loose dialect byte ≡ true) (is_digit Decimal byte) (λ _ d _. digit_loose dialect byte d) (λ _ _ q. or_right (is_name_byte dialect byte) (eqb byte 39) q) refl h

-- ---- fragments

number_is : (dialect : Dialect) (ds rest : List ℕ) → IsDigits Decimal ds → Fits kinds.Number ds → Ends (is_loose dialect) rest → Stands dialect kinds.Number (ds ++ rest) rest
number_is dialect [] rest d f e = absurd (omega (arith, d.0))
number_is dialect (first ∷ others) rest d f e = number_stands dialect first others rest d f (ends_within goes_on_a_number (is_loose dialect) (number_loose dialect) rest e)

literal_is : (dialect : Dialect) (width value rest : List ℕ) → IsDigits Decimal width → IsDigits Decimal value → Fits kinds.Literal (width ++ 39 ∷ 100 ∷ value) → Ends (is_loose dialect) rest → Stands dialect kinds.Literal ((width ++ 39 ∷ 100 ∷ value) ++ rest) rest
literal_is dialect [] value rest w v f e = absurd (omega (arith, w.0))
literal_is dialect (first ∷ others) value rest w v f e = literal_stands dialect first others Decimal value rest w v f (ends_within (is_digit Decimal) (is_loose dialect) (digit_loose dialect) rest e)

name_is : (dialect : Dialect) (name rest : List ℕ) → IsNameOf dialect name → Ends (is_loose dialect) rest → Stands dialect kinds.Name (name ++ rest) rest
name_is dialect [] rest w e = absurd w.0
name_is dialect (first ∷ others) rest w e = name_stands dialect first others rest w.0 (ends_within (is_name_byte dialect) (is_loose dialect) (λ b h. or_left (is_name_byte dialect b) (eqb b 39) h) rest e)

pub fragment_name : (dialect : Dialect) (name : Text) → IsNameOf dialect name → Fragment dialect AnyWord name name true
fragment_name dialect name w = record {
  items = Word kinds.Name name ∷ [];
  bytes = λ after. refl;
  stand = λ after f. (name_is dialect name after w f, tt);
  spelled = λ names ts rest (t, others, e, is, s).
      let sort : t.sort ≡ sorts.Name = is.sort ∙ ap (λ (o : Option Sort). unwrap_or o sorts.Name) w.1 in
      (t.name, (t, (e ∙ ap (λ (r : List Terminal). t ∷ r) s, sort), refl), sym (named names name t is.name sort));
}

pub fragment_number : (dialect : Dialect) (n : ℕ) → IsWritten n → Fragment dialect (λ names. AnyNumber) n (decimal n) true
fragment_number dialect n w =
    let text = decimal_text n w in
    record {
      items = Word kinds.Number (decimal n) ∷ [];
      bytes = λ after. refl;
      stand = λ after f. (number_is dialect (decimal n) after text.digits (subst IsWritten (sym text.value) w) f, tt);
      spelled = λ names ts rest (t, others, e, is, s). (t, (e ∙ ap (λ (r : List Terminal). t ∷ r) s, is.sort), sym (is.value ∙ text.value));
    }

pub fragment_literal : (dialect : Dialect) (width value : ℕ) → IsWritten width → IsWritten value → Fragment dialect (λ names. AnyLiteral) (width, value) (decimal width ++ 39 ∷ 100 ∷ decimal value) true
fragment_literal dialect width value w v =
    let a = decimal_text width w in
    let b = decimal_text value v in
    let bytes : List ℕ = decimal width ++ 39 ∷ 100 ∷ decimal value in
    let literal : IsLiteral bytes = record { width = decimal width; base = Decimal; digits = decimal value; parts = refl; of_width = a.digits; of_value = b.digits } in
    let numbers = literal_numbers bytes literal in
    let wide : width_of bytes ≡ width = numbers.0 ∙ a.value in
    let high : value_of bytes ≡ value = numbers.1 ∙ b.value in
    record {
      items = Word kinds.Literal bytes ∷ [];
      bytes = λ after. refl;
      stand = λ after f. (literal_is dialect (decimal width) (decimal value) after a.digits b.digits (subst IsWritten (sym wide) w, subst IsWritten (sym high) v) f, tt);
      spelled = λ names ts rest (t, others, e, is, s).
          (t, (e ∙ ap (λ (r : List Terminal). t ∷ r) s, is.sort), sym (ap (λ (x : ℕ). (x, t.value)) (is.width ∙ wide) ∙ ap (λ (x : ℕ). (width, x)) (is.value ∙ high)));
    }
