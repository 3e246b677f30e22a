-- What a set of owned texts says of its texts: a test of owned texts is a test of their bytes.
use Rattle.std.proofs.Common.{◌≡◌, ℕ, ◌+◌, Bool, true, false, not, cond, ◌||◌, List, [], ◌∷◌, ◌++◌, map, length, slice_get, position, Contains, Some, None, nat_lt, if◌then◌else◌, refl, sym, ap, ap₂, ◌∙◌, arith}
use Rattle.std.specs.List.{list_any, position_or_len}
use Rattle.std.specs.Cmp.Lexicographic.{nat_list_eq_equiv}
use Rattle.std.specs.Str.{bytes_eq}
use Rattle.std.proofs.lemmas.Bool.{or_parts}
use Rattle.std.proofs.lemmas.List.{map-append, length-map}
use Rattle.std.proofs.lemmas.List.Quantifiers.{position-Some}
use Rattle.std.proofs.lemmas.Map.Views.{Contains-from_any, list_any-from_Contains}
use Rattle.std.proofs.lemmas.Option.{slice_get-get_or}
use Rattle.std.proofs.lemmas.Slice.Eq.{bytes_eq-Decides}
use Rattle.indexmap.specs.IndexSet.{insert_key}
use Rattle.hw_names.specs.Name.{Text}

same_texts : (x y : Text) → bytes_eq x y ≡ true → x ≡ y
same_texts x y e = (bytes_eq-Decides x y).0 e

module _ {Owned : Type 0} (bytes : Owned → Text) (text : Text) where
  -- whether an owned text is the text
  abbrev pub is_text : Owned → Bool
  is_text owned = bytes_eq text (bytes owned)

  list_any-is_text : (xs : List Owned) → list_any is_text xs ≡ list_any (bytes_eq text) (map bytes xs)
  list_any-is_text [] = refl
  list_any-is_text (x ∷ xs) = ap (λ b. is_text x || b) (list_any-is_text xs)

  Contains-list_any : (xs : List Owned) → list_any is_text xs ≡ true → Contains (map bytes xs) text
  Contains-list_any xs e = Contains-from_any same_texts text (map bytes xs) (sym (list_any-is_text xs) ∙ e)

  pub list_any-Contains : (xs : List Owned) → Contains (map bytes xs) text → list_any is_text xs ≡ true
  list_any-Contains xs there = list_any-is_text xs ∙ list_any-from_Contains nat_list_eq_equiv text (map bytes xs) there

  -- a text that is not there is found nowhere
  list_any-absent : (xs : List Owned) → ¬ Contains (map bytes xs) text → list_any is_text xs ≡ false
  list_any-absent xs absent = by (list_any is_text xs) refl
    where
      by : (b : Bool) → list_any is_text xs ≡ b → list_any is_text xs ≡ false
      by true e = absurd (absent (Contains-list_any xs e))
      by false e = e

  position_or_len-is_text : (xs : List Owned) → position_or_len is_text xs ≡ position_or_len (bytes_eq text) (map bytes xs)
  position_or_len-is_text [] = refl
  position_or_len-is_text (x ∷ xs) = ap (λ n. cond (not (is_text x)) (1 + n) 0) (position_or_len-is_text xs)

  position-is_text : (xs : List Owned) → position is_text xs ≡ position (bytes_eq text) (map bytes xs)
  position-is_text xs = ap₂ (λ p n. cond (nat_lt p n) (Some p) None) (position_or_len-is_text xs) (sym (length-map xs bytes))

  -- at the place that a search finds stands the text
  pub slice_get-position : (xs : List Owned) (i : ℕ) → position is_text xs ≡ Some i → slice_get (map bytes xs) i ≡ Some text
  slice_get-position xs i found =
      let there = position-Some (bytes_eq text) (map bytes xs) i [] (sym (position-is_text xs) ∙ found) in
      slice_get-get_or (map bytes xs) i [] there.0 ∙ ap Some (sym (same_texts _ _ there.1))

-- the place of a key that no test finds is the length
position_or_len-absent : {K : Type 0} (test : K → Bool) (ks : List K) → list_any test ks ≡ false → position_or_len test ks ≡ length ks
position_or_len-absent test [] e = refl
position_or_len-absent test (k ∷ ks) e =
    let parts = or_parts (test k) (list_any test ks) e in
    let passed_over = ap (λ b. cond (not b) (1 + position_or_len test ks) 0) parts.0 in
    omega (arith, passed_over, position_or_len-absent test ks parts.1)

-- a text that was not there goes last
pub insert_key-absent : {Owned : Type 0} (bytes : Owned → Text) (xs : List Owned) (x : Owned) (names : List Text) (text : Text) → map bytes xs ≡ names → bytes x ≡ text → ¬ Contains names text
    → (map bytes (insert_key (λ a b. bytes_eq (bytes a) (bytes b)) xs x) ≡ names ++ text ∷ []) × (position_or_len (λ b. bytes_eq (bytes x) (bytes b)) xs ≡ length names)
insert_key-absent bytes xs x names text seen same absent =
    let found_nowhere = rw (← same) at (list_any-absent bytes text xs (rw seen absent)) in (
      ap (λ b. map bytes (if b then xs else xs ++ x ∷ [])) found_nowhere ∙ map-append bytes xs (x ∷ []) ∙ ap₂ (λ l t. l ++ t ∷ []) seen same,
      position_or_len-absent (is_text bytes (bytes x)) xs found_nowhere ∙ sym (length-map xs bytes) ∙ ap length seen,
    )
