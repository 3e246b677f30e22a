-- Numbers whose texts, big end first, are names.
use Rattle.std.proofs.Common.{◌≡◌, ◌≢◌, inl, inr, ℕ, ◌+◌, ◌^◌, ◌<◌, ◌≤◌, List, [], ◌∷◌, ◌++◌, length, get_or, Contains, sym, ap, subst, ◌∙◌, arith}
use Rattle.std.specs.Cmp.Lexicographic.{slice_cmp}
use Rattle.std.specs.Int.{to_be_bytes, w32}
use Rattle.std.specs.Ordering.{nat_cmp}
use Rattle.std.specs.declared.cmp.Ordering.TheVariants.{Greater}
use Rattle.std.proofs.lemmas.Bool.{cases_lt}
use Rattle.std.proofs.lemmas.List.{get_or_append_left, get_or_default, get_or_push, length_push}
use Rattle.hw_names.specs.Name.{Text}
use Rattle.hw_graph.specs.ByName.{IsAtMost}
use Rattle.hw_short.proofs.NumeralLemmas.{numerals_order, same_numeral}
use Rattle.cal_place.specs.inside.Entries.{AreNumerals}

-- of numbers with texts the one that is not above the other is at most it
pub at_most : (count : ℕ) (names : List Text) → AreNumerals count names → (m n : ℕ) → m < count → n < count → IsAtMost names m n → m ≤ n
at_most count names are m n within_m within_n h =
    let few : count < 2 ^ 32 = are.few in
    let A : Text → Type 0 = λ t. slice_cmp nat_cmp t (get_or names n []) ≢ Greater in
    let B : Text → Type 0 = λ t. slice_cmp nat_cmp (to_be_bytes w32 m) t ≢ Greater in
    numerals_order m n (omega arith) (omega arith) (subst B (are.each n within_n) (subst A (are.each m within_m) h))

-- ---- one more number

pub no_numerals : (names : List Text) → names ≡ [] → AreNumerals 0 names
no_numerals names none = record {
  sized = ap length none;
  each = λ k within. absurd (omega arith);
  few = omega arith;
}

-- the text of the next number is new
pub new_numeral : (count : ℕ) (names : List Text) → AreNumerals count names → count < 2 ^ 32 → Contains names (to_be_bytes w32 count) → ⊥
new_numeral count names are few has =
    let within : has.0 < count = omega (arith, has.1, are.sized) in
    let there : get_or names has.0 [] ≡ to_be_bytes w32 has.0 = are.each has.0 within in
    let same : to_be_bytes w32 has.0 ≡ to_be_bytes w32 count = sym there ∙ get_or_default names has.0 [] (to_be_bytes w32 count) has.1 ∙ has.2 in
    let e = same_numeral has.0 count (omega arith) few same in
    omega arith

pub numerals_more : (count : ℕ) (names more : List Text) → AreNumerals count names → count + 1 < 2 ^ 32 → more ≡ names ++ to_be_bytes w32 count ∷ [] → AreNumerals (count + 1) more
numerals_more count names more are few longer = record {
  sized = ap length longer ∙ length_push names (to_be_bytes w32 count) ∙ ap (λ n. n + 1) are.sized;
  each = λ k within. ap (λ (l : List Text). get_or l k []) longer ∙ one k within;
  few = few;
}
  where
    one : (k : ℕ) → k < count + 1 → get_or (names ++ to_be_bytes w32 count ∷ []) k [] ≡ to_be_bytes w32 k
    one k within = elim (cases_lt k count) [
      | inl less ↦
          let there : k < length names = omega (arith, are.sized) in
          get_or_append_left names (to_be_bytes w32 count ∷ []) [] k there ∙ are.each k less
      | inr more' ↦
          let same : count ≡ k = omega arith in
          get_or_push names (to_be_bytes w32 count) [] k (are.sized ∙ same) ∙ ap (to_be_bytes w32) same
    ]
