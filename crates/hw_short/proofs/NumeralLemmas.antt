-- Texts of numbers, big end first, stand in the order of the numbers.
use Rattle.std.proofs.Common.{◌≡◌, ◌≢◌, ◌⊎◌, inl, inr, ℕ, zero, suc, ◌+◌, ◌*◌, ◌/◌, ◌^◌, ◌<◌, ◌≤◌, Bool, true, false, cond, nat_lt, ◌==◌, [], ◌∷◌, refl, sym, ap, ◌∙◌, mod-lt, lit<, arith}
use Rattle.std.specs.Cmp.Lexicographic.{slice_cmp}
use Rattle.std.specs.Int.{byte_at, from_be_bytes, to_be_bytes, w32}
use Rattle.std.specs.Ordering.{nat_cmp, ordering_then}
use Rattle.std.specs.declared.cmp.Ordering.{Ordering}
use Rattle.std.specs.declared.cmp.Ordering.TheVariants.{Less, Equal, Greater}
use Rattle.std.proofs.lemmas.Bool.{ltb-true, eqb-true}
use Rattle.std.proofs.lemmas.Nat.{from_be_bytes-to_be_bytes_4}

-- the first of two digits that differ decides
step : (x y : ℕ) (rest : Ordering) → ordering_then (nat_cmp x y) rest ≢ Greater → (x < y) ⊎ ((x ≡ y) × (rest ≢ Greater))
step x y rest h = by (nat_lt x y) refl (x == y) refl h
  where
    by : (l : Bool) → nat_lt x y ≡ l → (e : Bool) → (x == y) ≡ e → ordering_then (cond l Less (cond e Equal Greater)) rest ≢ Greater → (x < y) ⊎ ((x ≡ y) × (rest ≢ Greater))
    by true less e same g = inl (ltb-true x y less)
    by false less true same g = inr (eqb-true x y same, g)
    by false less false same g = absurd (g refl)

four : (a b c d p q r s : ℕ) → b < 256 → c < 256 → d < 256
    → slice_cmp nat_cmp (a ∷ b ∷ c ∷ d ∷ []) (p ∷ q ∷ r ∷ s ∷ []) ≢ Greater
    → a * 16777216 + b * 65536 + c * 256 + d ≤ p * 16777216 + q * 65536 + r * 256 + s
four a b c d p q r s small_b small_c small_d h =
    elim (step a p _ h) [
      | inl less ↦ omega arith
      | inr same ↦ elim (step b q _ same.1) [
        | inl less ↦ omega (arith, same.0)
        | inr more ↦ elim (step c r _ more.1) [
          | inl less ↦ omega (arith, same.0, more.0)
          | inr last ↦ elim (step d s _ last.1) [
            | inl less ↦ omega (arith, same.0, more.0, last.0)
            | inr end ↦ omega (arith, same.0, more.0, last.0, end.0)
          ]
        ]
      ]
    ]

abbrev digits : ℕ → ℕ
digits n = byte_at 3 n * 16777216 + byte_at 2 n * 65536 + byte_at 1 n * 256 + byte_at 0 n

digits_are : (n : ℕ) → n < 2 ^ 32 → digits n ≡ n
digits_are n small = let e = from_be_bytes-to_be_bytes_4 n small in omega (arith, e)

small_digit : (i n : ℕ) → byte_at i n < 256
small_digit zero n = mod-lt n (lit< tt)
small_digit (suc i) n = mod-lt (n / 256 ^ suc i) (lit< tt)

-- texts in order are of numbers in order
pub numerals_order : (m n : ℕ) → m < 2 ^ 32 → n < 2 ^ 32 → slice_cmp nat_cmp (to_be_bytes w32 m) (to_be_bytes w32 n) ≢ Greater → m ≤ n
numerals_order m n small_m small_n h =
    let e = four (byte_at 3 m) (byte_at 2 m) (byte_at 1 m) (byte_at 0 m) (byte_at 3 n) (byte_at 2 n) (byte_at 1 n) (byte_at 0 n)
    (small_digit 2 m) (small_digit 1 m) (small_digit 0 m) h in
    omega (arith, e, digits_are m small_m, digits_are n small_n)

-- a text is one number's
pub same_numeral : (m n : ℕ) → m < 2 ^ 32 → n < 2 ^ 32 → to_be_bytes w32 m ≡ to_be_bytes w32 n → m ≡ n
same_numeral m n small_m small_n e =
    sym (from_be_bytes-to_be_bytes_4 m small_m) ∙ ap (from_be_bytes w32) e ∙ from_be_bytes-to_be_bytes_4 n small_n
