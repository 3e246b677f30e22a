-- Words of the command line.
use Rattle.std.proofs.Common.{◌≡◌, ℕ, zero, suc, ◌<◌, ◌≤◌, ◌^◌, map, List, [], ◌∷◌, length, get_or, Result, Ok, Err, MatchOption, decimal, Bool, true, false, sym, ap, subst, ◌∙◌, arith, ⊎_elim, inl, inr}
use Rattle.std.specs.Borrow.{Bor}
use Rattle.std.specs.Prelude.{IsTrue}
use Rattle.std.specs.Result.{result_ok}
use Rattle.std.specs.Str.Parse.{ParsesUnsigned, AllDigits, digits_value}
use Rattle.std.proofs.lemmas.Str.Parse.{IsNumeralModel, numerals_by_value, tells_digits, parse_plain}
use Rattle.std.proofs.lemmas.Fmt.{first_decimal, decimal_digit, decimal_nonempty, digits_decimal, digits_value-decimal, decimal-digits_value}
use Rattle.hw_names.specs.Name.{Text}
use Rattle.filc_core.specs.Words.{IsCount, IsNoCount, HasSignOrZero}

own : IsNumeralModel (AllDigits 10) (digits_value 10)
own = numerals_by_value (AllDigits 10) tells_digits

plain_decimal : (n : ℕ) → n < 2 ^ 64 → HasSignOrZero (decimal n) → ⊥
plain_decimal zero small odd =
    let first : get_or (decimal 0) 0 0 ≡ 48 = ap (λ ds. get_or ds 0 0) (decimal_digit 0 (omega arith)) in
    let short : length (decimal 0) ≡ 1 = ap length (decimal_digit 0 (omega arith)) in
    ⊎_elim (λ plus. omega (arith, plus)) (λ zeros. omega (arith, zeros.0, zeros.1)) odd
plain_decimal (suc n) small odd =
    let first = first_decimal (suc n) (omega arith) small in
    ⊎_elim (λ plus. omega (arith, plus, first)) (λ zeros. omega (arith, zeros.0, first)) odd

pub no_count : (word : List ℕ) → HasSignOrZero word → IsNoCount word
no_count word odd n count = plain_decimal n count.1 (subst HasSignOrZero count.0 odd)

spelled : (word : List ℕ) → AllDigits 10 word → 0 < length word → digits_value 10 word < 2 ^ 64 → (HasSignOrZero word → ⊥) → decimal (digits_value 10 word) ≡ word
spelled word digits some small plain =
    decimal-digits_value own word digits some (λ zero. omega (arith, λ (long : 1 < length word). plain (inr (zero, long)))) small

pub parsed_count : {E : Type 0} (word : List ℕ) (r : Result ℕ E) → ParsesUnsigned 64 10 word r → (HasSignOrZero word → ⊥) → MatchOption (result_ok r) (IsNoCount word) (IsCount word)
parsed_count {E} word (Ok n) parsed plain =
    let read = parse_plain own {E = E} 64 word (Ok n) parsed (λ plus. plain (inl plus)) in
    (sym (ap decimal read.1 ∙ spelled word read.0.0 read.0.1 read.0.2 plain), omega (arith, read.1, read.0.2))
parsed_count {E} word (Err e) parsed plain = λ n count.
    parse_plain own {E = E} 64 word (Err e) parsed (λ plus. plain (inl plus))
    (subst (λ w. AllDigits 10 w × (0 < length w) × (digits_value 10 w < 2 ^ 64)) (sym count.0)
    (digits_decimal own n count.1, decimal_nonempty n count.1, omega (arith, digits_value-decimal own n count.1)))

-- ---- words one by one

-- what stands in the place of a word that isn't there
abbrev pub no_word : Bor Text
no_word = record { ref_ptr = (0, 0); now = [] }

-- two words, of which the first is this
pub two_words : (words : List (Bor Text)) (command : Text) → 2 ≤ length words → length words < 3 → (get_or words 0 no_word).now ≡ command
    → map (λ (w : Bor Text). w.now) words ≡ command ∷ (get_or words 1 no_word).now ∷ []
two_words [] command many few same = absurd (omega (arith, many))
two_words (a ∷ []) command many few same = absurd (omega (arith, many))
two_words (a ∷ b ∷ []) command many few same = ap (λ (w : Text). w ∷ b.now ∷ []) same
two_words (a ∷ b ∷ e ∷ words) command many few same = absurd (omega (arith, few))

-- a test that fails is of what doesn't hold
pub failed_test : (claim : Type 0) (b : Bool) → (claim → IsTrue b) → b ≡ false → claim → ⊥
failed_test claim b tests is holds = let e : true ≡ false = sym (tests holds) ∙ is in cc e

-- three words, of which the first is this
pub words_of_three : (words : List (Bor Text)) (command : Text) → 3 ≤ length words → length words < 4 → (get_or words 0 no_word).now ≡ command
    → map (λ (w : Bor Text). w.now) words ≡ command ∷ (get_or words 1 no_word).now ∷ (get_or words 2 no_word).now ∷ []
words_of_three [] command many few same = absurd (omega (arith, many))
words_of_three (a ∷ []) command many few same = absurd (omega (arith, many))
words_of_three (a ∷ b ∷ []) command many few same = absurd (omega (arith, many))
words_of_three (a ∷ b ∷ c ∷ []) command many few same = ap (λ (w : Text). w ∷ b.now ∷ c.now ∷ []) same
words_of_three (a ∷ b ∷ c ∷ e ∷ words) command many few same = absurd (omega (arith, few))
