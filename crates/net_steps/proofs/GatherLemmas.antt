-- Inputs that are gathered one after another.
use Rattle.std.proofs.Common.{◌≡◌, ℕ, zero, suc, ◌+◌, ◌<◌, ◌≤◌, List, [], ◌∷◌, ◌++◌, length, get_or, set, take, refl, sym, ap, ◌∙◌, arith}
use Rattle.std.proofs.lemmas.List.{take_more, take_more_set, length-take-le, map-append}
use Rattle.std.specs.Prelude.{slice_index}
use Rattle.hw_bits.specs.Values.{values_of, widths_of}
use Rattle.hw_bits.specs.Width.{low_bits}
use Rattle.hw_bits.specs.declared.bits.Bits.{Bits}
use Rattle.net_steps.specs.Gathered.{gathered}

-- the first inputs have these widths and values
pub record AreGathered (slots places widths : List ℕ) (number : ℕ) (inputs : List Bits) : Type 0 where
  pub values : values_of (take number inputs) ≡ gathered slots places (take number widths)
  pub widths_are : widths_of (take number inputs) ≡ take number widths

gathered_snoc : (slots places ws : List ℕ) (w : ℕ) → length ws < length places → gathered slots places (ws ++ w ∷ []) ≡ gathered slots places ws ++ low_bits w (slice_index slots (get_or places (length ws) 0)) ∷ []
gathered_snoc slots [] ws w lt = absurd (omega (arith, lt))
gathered_snoc slots (p ∷ places) [] w lt = refl
gathered_snoc slots (p ∷ places) (v ∷ ws) w lt = ap (λ l. low_bits v (slice_index slots p) ∷ l) (gathered_snoc slots places ws w (omega (arith, lt)))

pub gathered_none : (slots places widths : List ℕ) (inputs : List Bits) → AreGathered slots places widths 0 inputs
gathered_none slots places widths inputs = record { values = refl; widths_are = refl }

-- one input more
pub gathered_more : (slots places widths : List ℕ) (number : ℕ) (inputs : List Bits) (b : Bits) → number < length widths → length widths ≤ length places → length widths ≤ length inputs → b.width ≡ get_or widths number 0 → b.value ≡ low_bits (get_or widths number 0) (slice_index slots (get_or places number 0)) → AreGathered slots places widths number inputs → AreGathered slots places widths (number + 1) (set inputs number b)
gathered_more slots places widths number inputs b lt room space width value so_far =
    let in_inputs : number < length inputs = omega (arith, lt, space) in
    let more : take (number + 1) (set inputs number b) ≡ take number inputs ++ b ∷ [] = take_more_set inputs number b in_inputs in
    let next : take (number + 1) widths ≡ take number widths ++ get_or widths number 0 ∷ [] = take_more widths number 0 lt in
    let count : length (take number widths) ≡ number = length-take-le number widths (omega (arith, lt)) in
    let under : length (take number widths) < length places = omega (arith, count, lt, room) in
    record {
      values =
          ap values_of more
          ∙ map-append (λ (x : Bits). x.value) (take number inputs) (b ∷ [])
          ∙ ap (λ l. l ++ b.value ∷ []) so_far.values
          ∙ ap (λ v. gathered slots places (take number widths) ++ v ∷ []) (value ∙ ap (λ k. low_bits (get_or widths number 0) (slice_index slots (get_or places k 0))) (sym count))
          ∙ sym (gathered_snoc slots places (take number widths) (get_or widths number 0) under)
          ∙ ap (gathered slots places) (sym next);
      widths_are =
          ap widths_of more
          ∙ map-append (λ (x : Bits). x.width) (take number inputs) (b ∷ [])
          ∙ ap (λ l. l ++ b.width ∷ []) so_far.widths_are
          ∙ ap (λ w. take number widths ++ w ∷ []) width
          ∙ sym next;
    }

-- one of the inputs
pub gathered_at : (slots places widths : List ℕ) (k : ℕ) → k < length widths → length widths ≤ length places →
    slice_index (gathered slots places widths) k ≡ low_bits (get_or widths k 0) (slice_index slots (slice_index places k))
gathered_at slots places [] k lt room = absurd (omega (arith, lt))
gathered_at slots [] (w ∷ widths) k lt room = absurd (omega (arith, room))
gathered_at slots (p ∷ places) (w ∷ widths) zero lt room = refl
gathered_at slots (p ∷ places) (w ∷ widths) (suc k) lt room = gathered_at slots places widths k (omega (arith, lt)) (omega (arith, room))
