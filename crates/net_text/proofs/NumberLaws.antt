-- Numbers in decimal digits: what is read is the text of the number, and the text of a number is read.
use Rattle.std.proofs.Common.{◌≡◌, ◌≢◌, ℕ, ◌+◌, ◌-◌, ◌*◌, ◌/◌, ◌%◌, ◌^◌, ◌<◌, ◌≤◌, ◌&&◌, Bool, true, false, cond, eqb, List, [], ◌∷◌, ◌++◌, length, get_or, Option, Some, None, refl, sym, ap, ◌∙◌, append_assoc, subst, inl, inr, arith}
use Rattle.std.specs.Fmt.{decimal}
use Rattle.std.specs.List.{list_all}
use Rattle.std.proofs.lemmas.Bool.Decides.{nat_tests}
use Rattle.std.proofs.lemmas.List.{append-nil, length-append, get_or_append_left}
use Rattle.std.proofs.lemmas.Bool.{ltb-true, lt-ltb, eqb-false, ne_eqb, cases_lt}
use Rattle.std.proofs.lemmas.Fmt.{decimal_digit, decimal_step_wide, decimal_by_steps_wide}
use Rattle.net_text.specs.Names.{is_number}
use Rattle.net_text.specs.inside.ReadWords.{◌>>=◌, is_digit, digits_after, number_of}

-- a number with a text is short enough for std's lemmas
pub narrow : (n : ℕ) → is_number n ≡ true → n < 10 ^ 64
narrow n h = omega (arith, ltb-true n (2 ^ 128) h)

pub both_true : (a b : Bool) → (a && b) ≡ true → (a ≡ true) × (b ≡ true)
both_true true b h = (refl, h)
both_true false b h = absurd cc

pub chosen : {A : Type 0} (b : Bool) (o : Option A) (x : A) → cond b o None ≡ Some x → (b ≡ true) × (o ≡ Some x)
chosen true o x e = (refl, e)
chosen false o x e = absurd cc

pub unless : {A : Type 0} (b : Bool) (o : Option A) (x : A) → cond b None o ≡ Some x → (b ≡ false) × (o ≡ Some x)
unless true o x e = absurd cc
unless false o x e = (refl, e)

all_push : (p : ℕ → Bool) (xs : List ℕ) (x : ℕ) → list_all p xs ≡ true → p x ≡ true → list_all p (xs ++ x ∷ []) ≡ true
all_push p [] x h e = rw e refl
all_push p (y ∷ xs) x h e = let b = both_true (p y) (list_all p xs) h in rw b.0 (all_push p xs x b.1 e)

is_same : (m n : ℕ) → ◌≡◌ {A = Option ℕ} (Some m) (Some n) → m ≡ n
is_same m n e = cc

-- ---- what is read is the text

digit_bounds : (c : ℕ) → is_digit c ≡ true → (48 ≤ c) × (c ≤ 57)
digit_bounds c h = grind (arith, nat_tests)

digits_take : (n m : ℕ) (ds : List ℕ) → 0 < n → is_number n ≡ true → digits_after n ds ≡ Some m → (decimal m ≡ decimal n ++ ds) × (is_number m ≡ true)
digits_take n m [] some small e =
    let same = is_same n m e in
    (ap decimal (sym same) ∙ sym (append-nil (decimal n)), subst (λ (k : ℕ). is_number k ≡ true) same small)
digits_take n m (c ∷ cs) some small e =
    let b = chosen _ _ m e in
    let tests = both_true (is_digit c) (is_number (n * 10 + (c - 48))) b.0 in
    let bounds = digit_bounds c tests.0 in
    let k : ℕ = n * 10 + (c - 48) in
    let front : k / 10 ≡ n = omega (arith, bounds.0, bounds.1) in
    let end : 48 + k % 10 ≡ c = omega (arith, bounds.0, bounds.1) in
    let rest = digits_take k m cs (omega arith) tests.1 b.1 in (
      rest.0
          ∙ ap (λ (x : List ℕ). x ++ cs) (decimal_step_wide k (omega arith) (narrow k tests.1) ∙ (λ i. decimal (front i) ++ (end i ∷ [])))
          ∙ append_assoc (decimal n) (c ∷ []) cs,
      rest.1,
    )

pub number_takes : (ds : List ℕ) (m : ℕ) → number_of ds ≡ Some m → (ds ≡ decimal m) × (is_number m ≡ true)
unfolding number_of
number_takes [] m e = absurd cc
number_takes (c ∷ []) m e =
    let b = chosen _ _ m e in
    let tests = both_true (is_digit c) (is_number (0 * 10 + (c - 48))) b.0 in
    let bounds = digit_bounds c tests.0 in
    let same : 0 * 10 + (c - 48) ≡ m = is_same _ m b.1 in
    let d : c - 48 ≡ m = omega arith in
    let back : 48 + (c - 48) ≡ c = omega (arith, bounds.0) in
    (sym (ap decimal (sym d) ∙ decimal_digit (c - 48) (omega (arith, bounds.1)) ∙ ap (λ (x : ℕ). x ∷ []) back), subst (λ (k : ℕ). is_number k ≡ true) same tests.1)
number_takes (c ∷ d ∷ cs) m e =
    let u = unless (eqb c 48) (digits_after 0 (c ∷ d ∷ cs)) m e in
    let b = chosen _ _ m u.1 in
    let tests = both_true (is_digit c) (is_number (0 * 10 + (c - 48))) b.0 in
    let bounds = digit_bounds c tests.0 in
    let other : c ≢ 48 = eqb-false c 48 u.0 in
    let same : 0 * 10 + (c - 48) ≡ c - 48 = omega arith in
    let back : 48 + (c - 48) ≡ c = omega (arith, bounds.0) in
    let rest = digits_take (0 * 10 + (c - 48)) m (d ∷ cs) (omega (arith, bounds.0, other)) tests.1 b.1 in
    (sym (rest.0 ∙ ap (λ (k : ℕ). decimal k ++ (d ∷ cs)) same ∙ ap (λ (x : List ℕ). x ++ (d ∷ cs)) (decimal_digit (c - 48) (omega (arith, bounds.1)) ∙ ap (λ (x : ℕ). x ∷ []) back)), rest.1)

-- ---- the text is read

after_cond : (b : Bool) (o p : Option ℕ) (f : ℕ → Option ℕ) → p ≡ (o >>= f) → cond b p None ≡ (cond b o None >>= f)
after_cond true o p f h = h
after_cond false o p f h = refl

digits_append : (n : ℕ) (ds es : List ℕ) → digits_after n (ds ++ es) ≡ (digits_after n ds >>= λ m. digits_after m es)
digits_append n [] es = refl
digits_append n (c ∷ cs) es =
    after_cond (is_digit c && is_number (n * 10 + (c - 48))) (digits_after (n * 10 + (c - 48)) cs) (digits_after (n * 10 + (c - 48)) (cs ++ es)) (λ m. digits_after m es) (digits_append (n * 10 + (c - 48)) cs es)

-- what the digits of a number are like
pub record IsText (n : ℕ) (ds : List ℕ) : Type 0 where
  pub some : 0 < length ds
  pub first : 0 < n → get_or ds 0 0 ≢ 48
  pub alone : n < 10 → length ds ≡ 1
  pub read : is_number n ≡ true → digits_after 0 ds ≡ Some n
  pub digits : list_all is_digit ds ≡ true

one_digit : (n d : ℕ) → d < 10 → is_number (n * 10 + d) ≡ true → digits_after n ((48 + d) ∷ []) ≡ Some (n * 10 + d)
one_digit n d small fits =
    let digit : is_digit (48 + d) ≡ true = grind (arith, nat_tests) in
    let back : 48 + d - 48 ≡ d = omega arith in
    rw (back, digit, fits) refl

IsText-one : (n : ℕ) → n < 10 → IsText n ((48 + n) ∷ [])
IsText-one n small = record {
  some = omega arith;
  first = λ some e. omega (arith, e);
  alone = λ _. refl;
  read = λ fits. let z : 0 * 10 + n ≡ n = omega arith in one_digit 0 n small (ap is_number z ∙ fits) ∙ ap (λ (k : ℕ). Some k) z;
  digits = let digit : is_digit (48 + n) ≡ true = grind (arith, nat_tests) in rw digit refl;
}

fits_front : (n : ℕ) → is_number n ≡ true → is_number (n / 10) ≡ true
fits_front n h = lt-ltb (n / 10) (2 ^ 128) (omega (arith, ltb-true n (2 ^ 128) h))

IsText-more : (n : ℕ) (ds : List ℕ) → 10 ≤ n → IsText (n / 10) ds → IsText n (ds ++ ((48 + n % 10) ∷ []))
IsText-more n ds large h = record {
  some = omega (arith, length-append ds ((48 + n % 10) ∷ []));
  first = λ some e. h.first (omega arith) (sym (get_or_append_left ds ((48 + n % 10) ∷ []) 0 0 h.some) ∙ e);
  alone = λ small. absurd (omega arith);
  read = λ fits.
      let whole : n / 10 * 10 + n % 10 ≡ n = omega arith in
      digits_append 0 ds ((48 + n % 10) ∷ [])
      ∙ ap (λ o. o >>= λ m. digits_after m ((48 + n % 10) ∷ [])) (h.read (fits_front n fits))
      ∙ one_digit (n / 10) (n % 10) (omega arith) (ap is_number whole ∙ fits)
      ∙ ap (λ (k : ℕ). Some k) whole;
  digits = let digit : is_digit (48 + n % 10) ≡ true = grind (arith, nat_tests) in all_push is_digit ds (48 + n % 10) h.digits digit;
}

pub IsText-decimal : (n : ℕ) → is_number n ≡ true → IsText n (decimal n)
IsText-decimal n small = decimal_by_steps_wide IsText IsText-one IsText-more n (narrow n small)

of_digits : (ds : List ℕ) → 0 < length ds → (get_or ds 0 0 ≡ 48 → length ds ≡ 1) → number_of ds ≡ digits_after 0 ds
unfolding number_of
of_digits [] some lead = absurd (omega arith)
of_digits (c ∷ []) some lead = refl
of_digits (c ∷ d ∷ cs) some lead =
    let other : eqb c 48 ≡ false = ne_eqb c 48 (λ e. omega (arith, lead e)) in
    rw other refl

pub number_again : (n : ℕ) → is_number n ≡ true → number_of (decimal n) ≡ Some n
number_again n small =
    let text = IsText-decimal n small in
    let lead : get_or (decimal n) 0 0 ≡ 48 → length (decimal n) ≡ 1 = λ e.
    elim (cases_lt 0 n) [
      | inl lt ↦ absurd (text.first lt e)
      | inr le ↦ text.alone (omega arith)
    ] in
    of_digits (decimal n) text.some lead ∙ text.read small
