-- Numerals: each is of one number, and up to 2 ^ 64 they are what is written.
use Rattle.std.proofs.Common.{◌≡◌, ℕ, zero, suc, ◌+◌, ◌-◌, ◌*◌, ◌/◌, ◌%◌, ◌^◌, ◌<◌, ◌≤◌, nat_lt, Bool, true, false, [], ◌∷◌, ◌++◌, if◌then◌else◌, decimal, refl, sym, ap, ◌∙◌, arith}
use Rattle.std.proofs.lemmas.Bool.{ltb-false, lt-ltb, le-ltb}
use Rattle.std.proofs.lemmas.Fmt.{decimal_by_steps}
use Rattle.hw_names.specs.Name.{Text}
use Rattle.cal_group.specs.inside.Numeral.{digits_within, numeral}

-- the number that digits read after another number
read : ℕ → Text → ℕ
read n [] = n
read n (digit ∷ digits) = read (n * 10 + (digit - 48)) digits

read-append : (n : ℕ) (xs ys : Text) → read n (xs ++ ys) ≡ read (read n xs) ys
unfolding read
read-append n [] ys = refl
read-append n (x ∷ xs) ys = read-append (n * 10 + (x - 48)) xs ys

read-one : (n d : ℕ) → read n ((48 + d) ∷ []) ≡ n * 10 + d
unfolding read
read-one n d = let e : n * 10 + ((48 + d) - 48) ≡ n * 10 + d = omega arith in e

read-last : (n d : ℕ) (xs : Text) → read n (xs ++ (48 + d) ∷ []) ≡ read n xs * 10 + d
read-last n d xs = read-append n xs ((48 + d) ∷ []) ∙ read-one (read n xs) d

read_back : (more n : ℕ) → n < more → read 0 (digits_within more n) ≡ n
read_back zero n less = absurd (omega arith)
read_back (suc more) n less = by (nat_lt n 10) refl (read_back more (n / 10))
  where
    by : (b : Bool) → nat_lt n 10 ≡ b → (n / 10 < more → read 0 (digits_within more (n / 10)) ≡ n / 10) → read 0 (if b then (48 + n) ∷ [] else digits_within more (n / 10) ++ (48 + n % 10) ∷ []) ≡ n
    by true is shorter = read-one 0 n ∙ (let e : 0 * 10 + n ≡ n = omega arith in e)
    by false is shorter =
        let high : 10 ≤ n = ltb-false n 10 is in
        let whole = shorter (omega arith) in
        read-last 0 (n % 10) (digits_within more (n / 10)) ∙ ap (λ (q : ℕ). q * 10 + n % 10) whole ∙ (let e : (n / 10) * 10 + n % 10 ≡ n = omega arith in e)

pub numeral_once : (m n : ℕ) → numeral m ≡ numeral n → m ≡ n
unfolding numeral
numeral_once m n same = sym (read_back (m + 1) m (omega arith)) ∙ ap (read 0) same ∙ read_back (n + 1) n (omega arith)

abbrev IsWithin : ℕ → Text → Type 0
IsWithin n text = (more : ℕ) → n < more → digits_within more n ≡ text

within_one : (n : ℕ) → n < 10 → IsWithin n ((48 + n) ∷ [])
within_one n small zero less = absurd (omega arith)
within_one n small (suc more) less = rw (lt-ltb n 10 small) refl

within_more : (n : ℕ) (digits : Text) → 10 ≤ n → IsWithin (n / 10) digits → IsWithin n (digits ++ (48 + n % 10) ∷ [])
within_more n digits high shorter zero less = absurd (omega arith)
within_more n digits high shorter (suc more) less =
    rw (le-ltb n 10 high) (ap (λ (text : Text). text ++ (48 + n % 10) ∷ []) (shorter more (omega arith)))

pub numeral_decimal : (n : ℕ) → n < 2 ^ 64 → numeral n ≡ decimal n
unfolding numeral
numeral_decimal n small = decimal_by_steps IsWithin within_one within_more n small (n + 1) (omega arith)
