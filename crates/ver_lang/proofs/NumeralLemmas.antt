-- The digits of a number spell it.
use Rattle.std.proofs.Common.{◌≡◌, ℕ, ◌+◌, ◌-◌, ◌*◌, ◌/◌, ◌%◌, ◌^◌, ◌<◌, ◌≤◌, true, [], ◌∷◌, ◌++◌, length, refl, ap, ◌∙◌, arith}
use Rattle.std.proofs.lemmas.Bool.Decides.{nat_tests}
use Rattle.std.proofs.lemmas.Fmt.{decimal_by_steps_wide}
use Rattle.std.proofs.lemmas.List.{length-append}
use Rattle.std.proofs.lemmas.List.Folds.{list_all-append}
use Rattle.std.specs.Fmt.{decimal}
use Rattle.std.specs.List.{list_all}
use Rattle.hw_names.specs.Name.{Text}
use Rattle.ver_lang.specs.Layout.{is_number}
use Rattle.ver_lang.specs.Token.{is_digit, number_from, number_of}

pub record IsNumeral (n : ℕ) (text : Text) : Type 0 where
  pub some : 0 < length text
  pub digits : list_all is_digit text ≡ true
  pub value : number_of text ≡ n

-- one digit more
number_push : (number digit : ℕ) (text : Text) → number_from number (text ++ digit ∷ []) ≡ number_from number text * 10 + (digit - 48)
number_push number digit [] = refl
number_push number digit (d ∷ ds) = number_push (number * 10 + (d - 48)) digit ds

numeral_one : (n : ℕ) → n < 10 → IsNumeral n ((48 + n) ∷ [])
numeral_one n small = record {
  some = omega arith;
  digits = let digit : is_digit (48 + n) ≡ true = grind (arith, nat_tests) in rw digit refl;
  value = omega arith;
}

numeral_more : (n : ℕ) (text : Text) → 10 ≤ n → IsNumeral (n / 10) text → IsNumeral n (text ++ ((48 + n % 10) ∷ []))
numeral_more n text large h = record {
  some = omega (arith, length-append text ((48 + n % 10) ∷ []));
  digits = let digit : is_digit (48 + n % 10) ≡ true = grind (arith, nat_tests) in list_all-append is_digit text ((48 + n % 10) ∷ []) ∙ rw (h.digits, digit) refl;
  value =
      let whole : n / 10 * 10 + (48 + n % 10 - 48) ≡ n = omega arith in
      number_push 0 (48 + n % 10) text ∙ ap (λ (k : ℕ). k * 10 + (48 + n % 10 - 48)) h.value ∙ whole;
}

pub numeral : (n : ℕ) → is_number n ≡ true → IsNumeral n (decimal n)
numeral n small =
    let fits : n < 2 ^ 128 = grind (arith, nat_tests) in
    decimal_by_steps_wide IsNumeral numeral_one numeral_more n (omega (arith, fits))
