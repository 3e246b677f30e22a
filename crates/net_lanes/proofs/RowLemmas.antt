-- The inputs of a lane, and what is made of each lane, one after another.
use Rattle.std.proofs.Common.{◌≡◌, ◌≢◌, ℕ, zero, suc, ◌+◌, ◌^◌, ◌<◌, ◌≤◌, List, [], ◌∷◌, ◌++◌, Some, length, length-set, get_or, set, take, inl, inr, refl, sym, ap, subst, ◌∙◌, arith, get_or-set_other, get_or-set_same}
use Rattle.std.proofs.Math.Nat.{mod-eq_of_lt}
use Rattle.std.proofs.Math.Seq.{map-set_same}
use Rattle.std.proofs.lemmas.Bool.{cases_lt}
use Rattle.std.proofs.lemmas.List.{length-map, get_or-map, map-set, take_more, take_more_set}
use Rattle.std.proofs.lemmas.Option.{slice_get-get_or, slice_get_within, same_Some, get_or_from_slice_get}
use Rattle.std.specs.Prelude.{slice_get, slice_index}
use Rattle.hw_bits.specs.Values.{values_of, widths_of}
use Rattle.hw_bits.specs.Width.{low_bits}
use Rattle.hw_bits.specs.declared.bits.Bits.{Bits}
use Rattle.net_lanes.specs.Lanes.{AreInputs, lane_inputs}

-- ---- the inputs of a lane

-- the first inputs have the lane's values
pub record AreSetUpto (widths : List ℕ) (lane : ℕ) (inputs : List (List ℕ)) (number : ℕ) (held : List Bits) : Type 0 where
  pub widths_are : widths_of held ≡ widths
  pub values : take number (values_of held) ≡ take number (lane_inputs lane inputs)

set_keeps_widths : (held : List Bits) (i : ℕ) (b : Bits) → slice_get (widths_of held) i ≡ Some b.width → widths_of (set held i b) ≡ widths_of held
set_keeps_widths held i b wide =
    let within : i < length held = omega (arith, slice_get_within (widths_of held) i b.width wide, length-map held (λ (x : Bits). x.width)) in
    map-set_same (λ (x : Bits). x.width) held i b b (sym (get_or_from_slice_get (widths_of held) i b.width b.width wide) ∙ get_or-map (λ (x : Bits). x.width) held i b b.width within)

-- one input more
pub set_more : (widths : List ℕ) (lane : ℕ) (inputs : List (List ℕ)) (number : ℕ) (held : List Bits) (b : Bits) (w : ℕ) (d : List ℕ) → AreInputs widths inputs → lane < 8 → number < length inputs
    → b.width ≡ w → b.width ≡ get_or (widths_of held) number 0 → b.value ≡ low_bits w (slice_index (get_or inputs number d) lane) → AreSetUpto widths lane inputs number held → AreSetUpto widths lane inputs (number + 1) (set held number b)
set_more widths lane inputs number held b w d are inside lt width_is width value so_far =
    let all = are.all in
    let many : length widths ≡ length held = ap length (sym so_far.widths_are) ∙ length-map held (λ (x : Bits). x.width) in
    let in_widths : number < length widths = omega (arith, lt, all) in
    let in_values : number < length (values_of held) = omega (arith, in_widths, many, length-map held (λ (x : Bits). x.value)) in
    let in_lane : number < length (lane_inputs lane inputs) = omega (arith, lt, length-map inputs (λ (v : List ℕ). slice_index v lane)) in
    let wide : slice_get (widths_of held) number ≡ Some b.width =
    slice_get-get_or (widths_of held) number 0 (omega (arith, in_widths, ap length so_far.widths_are)) ∙ ap (λ (v : ℕ). Some v) (sym width) in
    let fits = are.fit number lane b.width (get_or inputs number d) (ap (λ ws. slice_get ws number) (sym so_far.widths_are) ∙ wide) (slice_get-get_or inputs number d lt) inside in
    let small : slice_index (get_or inputs number d) lane < 2 ^ w = subst (λ v. slice_index (get_or inputs number d) lane < 2 ^ v) width_is fits in
    let is : b.value ≡ get_or (lane_inputs lane inputs) number 0 =
    value ∙ mod-eq_of_lt small ∙ sym (get_or-map (λ (v : List ℕ). slice_index v lane) inputs number d 0 lt) in
    record {
      widths_are = set_keeps_widths held number b wide ∙ so_far.widths_are;
      values =
          ap (take (number + 1)) (map-set (λ (x : Bits). x.value) held number b)
          ∙ take_more_set (values_of held) number b.value in_values
          ∙ ap (λ l. l ++ b.value ∷ []) so_far.values
          ∙ ap (λ v. take number (lane_inputs lane inputs) ++ v ∷ []) is
          ∙ sym (take_more (lane_inputs lane inputs) number 0 in_lane);
    }

-- ---- items that change one after another

module _ {A : Type 0} where
  -- the first items have changed so, and the others not yet
  pub record ChangedUpto (Changes : ℕ → A → A → Type 0) (number : ℕ) (old new : List A) : Type 0 where
    pub all : length new ≡ length old
    pub made : (k : ℕ) (o n : A) → k < number → slice_get old k ≡ Some o → slice_get new k ≡ Some n → Changes k o n
    pub rest : (k : ℕ) (o n : A) → number ≤ k → slice_get old k ≡ Some o → slice_get new k ≡ Some n → n ≡ o

  pub changed_as : (Changes Others : ℕ → A → A → Type 0) (number : ℕ) (old new : List A) → ((k : ℕ) (o n : A) → k < number → Changes k o n → Others k o n) → ChangedUpto Changes number old new → ChangedUpto Others number old new
  changed_as Changes Others number old new f so_far = record {
    all = so_far.all;
    made = λ k o n lt at at'. f k o n lt (so_far.made k o n lt at at');
    rest = so_far.rest;
  }

  -- the next one is as it was
  pub still : (Changes : ℕ → A → A → Type 0) (number : ℕ) (old new : List A) (d : A) → number < length new → ChangedUpto Changes number old new → get_or old number d ≡ get_or new number d
  still Changes number old new d lt so_far =
      let here = slice_get-get_or new number d lt in
      let there = slice_get-get_or old number d (let e = so_far.all in omega (arith, lt, e)) in
      sym (so_far.rest number (get_or old number d) (get_or new number d) (omega arith) there here)

  set_there : (new : List A) (number : ℕ) (after : A) → number < length new → slice_get (set new number after) number ≡ Some after
  set_there new number after lt =
      let l = length-set new number after in
      slice_get-get_or (set new number after) number after (omega (arith, l, lt)) ∙ ap Some (get_or-set_same new number after after lt)

  unset : (new : List A) (number : ℕ) (after : A) (k : ℕ) (n : A) → k ≢ number → slice_get (set new number after) k ≡ Some n → slice_get new k ≡ Some n
  unset new number after k n ne at =
      let within = slice_get_within (set new number after) k n at in
      let l = length-set new number after in
      slice_get-get_or new k n (omega (arith, within, l)) ∙ ap Some (sym (get_or-set_other new number k after n ne) ∙ get_or_from_slice_get (set new number after) k n n at)

  -- one more
  pub changed_more : (Changes : ℕ → A → A → Type 0) (number : ℕ) (old new : List A) (after d : A) → number < length new → Changes number (get_or new number d) after → ChangedUpto Changes number old new → ChangedUpto Changes (number + 1) old (set new number after)
  changed_more Changes number old new after d lt is so_far = record {
    all = length-set new number after ∙ so_far.all;
    made = λ k o n less at at'. elim (cases_lt k number) [
      | inl earlier ↦ so_far.made k o n earlier at (unset new number after k n (omega (arith, earlier)) at')
      | inr beyond ↦
          let e : number ≡ k = omega (arith, less, beyond) in
          let before : get_or new number d ≡ o =
          sym (still Changes number old new d lt so_far) ∙ get_or_from_slice_get old number o d (ap (slice_get old) e ∙ at) in
          let now : after ≡ n = same_Some after n (sym (set_there new number after lt) ∙ ap (slice_get (set new number after)) e ∙ at') in
          subst (λ j. Changes j o n) e (subst (λ x. Changes number x n) before (subst (Changes number (get_or new number d)) now is))
    ];
    rest = λ k o n le at at'. so_far.rest k o n (omega (arith, le)) at (unset new number after k n (omega (arith, le)) at');
  }

  pub changed_all : (Changes : ℕ → A → A → Type 0) (number : ℕ) (old new : List A) → length old ≤ number → ChangedUpto Changes number old new → (k : ℕ) (o n : A) → slice_get old k ≡ Some o → slice_get new k ≡ Some n → Changes k o n
  changed_all Changes number old new over so_far k o n at at' = let within = slice_get_within old k o at in so_far.made k o n (omega (arith, within, over)) at at'

  -- one item alone
  pub set_changes : (Changes : A → A → Type 0) (old : List A) (place : ℕ) (after d : A) → place < length old → Changes (get_or old place d) after → (o n : A) → slice_get old place ≡ Some o → slice_get (set old place after) place ≡ Some n → Changes o n
  set_changes Changes old place after d lt is o n at at' =
      let before : get_or old place d ≡ o = get_or_from_slice_get old place o d at in
      let now : after ≡ n = same_Some after n (sym (set_there old place after lt) ∙ at') in
      subst (λ x. Changes x n) before (subst (Changes (get_or old place d)) now is)

  pub set_others : (old : List A) (place : ℕ) (after : A) (k : ℕ) → (k ≡ place → ⊥) → slice_get (set old place after) k ≡ slice_get old k
  set_others [] place after k ne = refl
  set_others (x ∷ old) zero after zero ne = absurd (ne refl)
  set_others (x ∷ old) zero after (suc k) ne = refl
  set_others (x ∷ old) (suc place) after zero ne = refl
  set_others (x ∷ old) (suc place) after (suc k) ne = set_others old place after k (λ e. ne (ap suc e))
