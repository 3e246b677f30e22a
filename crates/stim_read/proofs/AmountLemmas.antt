-- Texts of decimal digits.
use Rattle.std.proofs.Common.{◌≡◌, ℕ, ◌^◌, ◌&&◌, ◌||◌, ◌==◌, Bool, true, false, not, length, nat_lt, Option, Some, None, Result, Ok, Err, if◌then◌else◌, refl, ap, subst, ◌∙◌}
use Rattle.std.proofs.lemmas.Bool.{ltb-true, lt-ltb}
use Rattle.std.proofs.lemmas.Str.Parse.{IsNumeralModel, numerals_by_value, tells_all_ascii_digits, parse_plain}
use Rattle.std.specs.Result.{result_ok}
use Rattle.std.specs.Str.{all_ascii_digits}
use Rattle.std.specs.Str.Parse.{ParsesUnsigned, digits_value}
use Rattle.hw_names.specs.Name.{Text}
use Rattle.stim_read.specs.Amounts.{has_sign_or_zero, decimal_in}

own : IsNumeralModel (λ ds. all_ascii_digits ds ≡ true) (digits_value 10)
own = numerals_by_value (λ ds. all_ascii_digits ds ≡ true) tells_all_ascii_digits

taken : (a b c d : Bool) (v : ℕ) → a ≡ true → b ≡ true → c ≡ false → d ≡ true → ◌≡◌ {A = Option ℕ} (Some v) (if (a && b && not c) && d then Some v else None)
taken a b c d v p q r s = rw (p, q, r, s) refl

left_out : (a b c d : Bool) (v : ℕ) → (a ≡ true → b ≡ true → d ≡ true → ⊥) → ◌≡◌ {A = Option ℕ} None (if (a && b && not c) && d then Some v else None)
left_out false b c d v never = refl
left_out true false c d v never = refl
left_out true true true d v never = refl
left_out true true false false v never = refl
left_out true true false true v never = absurd (never refl refl refl)

out_by : (a b d : Bool) (v : ℕ) → ◌≡◌ {A = Option ℕ} None (if (a && b && false) && d then Some v else None)
out_by false b d v = refl
out_by true false d v = refl
out_by true true d v = refl

-- a text without a sign begins with no plus
no_plus : (n : ℕ) (b : Bool) → n ≡ 43 → ((n == 43) || b) ≡ false → ⊥
no_plus n b plus plain = let e : ((43 == 43) || b) ≡ false = subst (λ (m : ℕ). ((m == 43) || b) ≡ false) plus plain in cc

odd_by : (a b c d : Bool) (v : ℕ) → c ≡ true → ◌≡◌ {A = Option ℕ} None (if (a && b && not c) && d then Some v else None)
odd_by a b c d v odd = rw odd (out_by a b d v)

pub odd_text : (text : Text) → has_sign_or_zero text ≡ true → None ≡ decimal_in text
odd_text text odd = odd_by (all_ascii_digits text) (nat_lt 0 (length text)) (has_sign_or_zero text) (nat_lt (digits_value 10 text) (2 ^ 128)) (digits_value 10 text) odd

pub decimal_parsed : {E : Type 0} (text : Text) (r : Result ℕ E) → ParsesUnsigned 128 10 text r → has_sign_or_zero text ≡ false → result_ok r ≡ decimal_in text
decimal_parsed {E} text (Ok n) parsed plain =
    let read = parse_plain own {E = E} 128 text (Ok n) parsed (λ plus. no_plus _ _ plus plain) in
    ap (λ (v : ℕ). Some v) read.1 ∙ taken _ _ _ _ _ read.0.0 (lt-ltb _ _ read.0.1) plain (lt-ltb _ _ read.0.2)
decimal_parsed {E} text (Err e) parsed plain =
    let read = parse_plain own {E = E} 128 text (Err e) parsed (λ plus. no_plus _ _ plus plain) in
    left_out _ _ _ _ _ (λ a b d. read (a, ltb-true _ _ b, ltb-true _ _ d))
