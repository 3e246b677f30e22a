-- A sum over rows, in each of which at most one item of a list counts, is the sum over the list.
use Rattle.std.proofs.Common.{◌≡◌, ◌≢◌, ℕ, zero, suc, ◌+◌, ◌<◌, ◌≤◌, Bool, false, cond, eqb, List, [], ◌∷◌, Option, None, Some, refl, ap, ap₂, ◌∙◌, sym, arith, ⊎_elim}
use Rattle.std.specs.List.{find, sum_by}
use Rattle.std.specs.Option.{option_map_or}
use Rattle.std.proofs.lemmas.Bool.{ne_eqb}
use Rattle.std.proofs.lemmas.Bool.Decides.{eqb_tells}
use Rattle.std.proofs.lemmas.List.Sums.{sum_by-cons}

-- a sum over the first rows
abbrev pub over : (ℕ → ℕ) → ℕ → ℕ
over f zero = 0
over f (suc t) = over f t + f t

over_so : (f g : ℕ → ℕ) (n : ℕ) → ((t : ℕ) → f t ≡ g t) → over f n ≡ over g n
over_so f g zero same = refl
over_so f g (suc t) same = ap₂ ◌+◌ (over_so f g t same) (same t)

over_both : (f g : ℕ → ℕ) (n : ℕ) → over (λ t. f t + g t) n ≡ over f n + over g n
over_both f g zero = refl
over_both f g (suc t) = let less = over_both f g t in omega (arith, less)

-- a value in one row
abbrev at_row : ℕ → ℕ → ℕ → ℕ
at_row row value t = cond (eqb t row) value 0

over_none : (row value n : ℕ) → n ≤ row → over (at_row row value) n ≡ 0
over_none row value zero before = refl
over_none row value (suc t) before =
    let none : at_row row value t ≡ 0 = ap (λ (b : Bool). cond b value 0) (ne_eqb t row (λ e. omega (arith, e))) in
    let less = over_none row value t (omega arith) in omega (arith, none, less)

still_within : (t row : ℕ) → row < suc t → t ≢ row → row < t
still_within t row within differ = omega (arith, differ)

over_one : (row value n : ℕ) → row < n → over (at_row row value) n ≡ value
over_one row value zero within = absurd (omega arith)
over_one row value (suc t) within =
    ⊎_elim
    (λ same.
    let here : at_row row value t ≡ value = ap (λ (b : Bool). cond b value 0) same.0 in
    let less = over_none row value t (omega (arith, same.1)) in omega (arith, here, less))
    (λ differ.
    let none : at_row row value t ≡ 0 = ap (λ (b : Bool). cond b value 0) differ.0 in
    let less = over_one row value t (still_within t row within differ.1) in omega (arith, none, less))
    (eqb_tells t row)

module _ {X : Type 0} (hit : ℕ → X → Bool) (row_of : X → ℕ) (value : X → ℕ) where
  -- items that count in one row each, later than those before them, and among the first rows
  abbrev pub Rise : ℕ → ℕ → List X → Type 0
  Rise from rows [] = Unit {0}
  Rise from rows (x ∷ xs) = ((t : ℕ) → hit t x ≡ eqb t (row_of x)) × (from ≤ row_of x) × (row_of x < rows) × Rise (row_of x + 1) rows xs

  none_hit : (t from rows : ℕ) (xs : List X) → t < from → Rise from rows xs → find (hit t) xs ≡ None
  none_hit t from rows [] early rise = refl
  none_hit t from rows (x ∷ xs) early rise =
      let miss : hit t x ≡ false = rise.0 t ∙ ne_eqb t (row_of x) (λ e. omega (arith, e, early, rise.1)) in
      ap (λ (b : Bool). cond b (Some x) (find (hit t) xs)) miss ∙ none_hit t (row_of x + 1) rows xs (omega (arith, early, rise.1)) rise.3

  -- the value of the item that counts in a row
  abbrev pub due : List X → ℕ → ℕ
  due xs t = option_map_or value (find (hit t) xs) 0

  due_more : (x : X) (xs : List X) (rows t : ℕ) → ((u : ℕ) → hit u x ≡ eqb u (row_of x)) → Rise (row_of x + 1) rows xs → due (x ∷ xs) t ≡ at_row (row_of x) (value x) t + due xs t
  due_more x xs rows t hits rise =
      ⊎_elim
      (λ same.
      let now : due (x ∷ xs) t ≡ value x = ap (λ (b : Bool). option_map_or value (cond b (Some x) (find (hit t) xs)) 0) (hits t ∙ same.0) in
      let none : due xs t ≡ 0 = ap (λ (o : Option X). option_map_or value o 0) (none_hit t (row_of x + 1) rows xs (omega (arith, same.1)) rise) in
      let here : at_row (row_of x) (value x) t ≡ value x = ap (λ (b : Bool). cond b (value x) 0) same.0 in
      omega (arith, now, none, here))
      (λ differ.
      let now : due (x ∷ xs) t ≡ due xs t = ap (λ (b : Bool). option_map_or value (cond b (Some x) (find (hit t) xs)) 0) (hits t ∙ differ.0) in
      let here : at_row (row_of x) (value x) t ≡ 0 = ap (λ (b : Bool). cond b (value x) 0) differ.0 in
      omega (arith, now, here))
      (eqb_tells t (row_of x))

  over_nothing : (n : ℕ) → over (due []) n ≡ 0
  over_nothing zero = refl
  over_nothing (suc t) = let less = over_nothing t in omega (arith, less)

  -- the sum of what counts in each row is the sum over the items
  pub all_due : (from rows : ℕ) (xs : List X) → Rise from rows xs → over (due xs) rows ≡ sum_by value xs
  all_due from rows [] rise = over_nothing rows
  all_due from rows (x ∷ xs) rise =
      over_so (due (x ∷ xs)) (λ t. at_row (row_of x) (value x) t + due xs t) rows (λ t. due_more x xs rows t rise.0 rise.3)
      ∙ over_both (at_row (row_of x) (value x)) (due xs) rows
      ∙ ap₂ ◌+◌ (over_one (row_of x) (value x) rows rise.2) (all_due (row_of x + 1) rows xs rise.3)
      ∙ sym (sum_by-cons value x xs)
