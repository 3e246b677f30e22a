-- The inputs of a run as they are set.
use Rattle.std.proofs.Common.{◌≡◌, ℕ, zero, suc, ◌+◌, ◌-◌, ◌<◌, ◌≤◌, List, [], ◌∷◌, ◌++◌, length, map, take, drop, get_or, set, slice_get, slice_range, slice_set, replicate, Some, cond, false, ⊎_elim, refl, sym, ap, ◌∙◌, arith, get_or-drop}
use Rattle.std.proofs.lemmas.List.{map-set, take_more, length-drop, length-map, get_or-map}
use Rattle.std.proofs.lemmas.Option.{get_or_from_slice_get, slice_get_within, slice_get-get_or}
use Rattle.std.proofs.Math.Seq.{map-set_same, take-add}
use Rattle.std.proofs.lemmas.Bool.{cases_lt, le-leb}
use Rattle.std.specs.Prelude.{filter, nat_le}
use Rattle.std.proofs.lemmas.Bool.Decides.{leb_tells}
use Rattle.std.specs.List.{AllWithin}
use Rattle.std.specs.List.Sorted.{IsNonDecreasingBy}
use Rattle.hw_bits.specs.Values.{values_of, widths_of}
use Rattle.hw_bits.specs.declared.bits.Bits.{Bits}
use Rattle.net_core.specs.declared.stimulus.InputSet.{InputSet}
use Rattle.stim_read.specs.CycleRun.{Setting, setting_seen}
use Rattle.filc_load.specs.Given.{with_settings, is_made_by, with_sets}
use Rattle.filc_report.specs.Driving.{AreMade}

pub with_sets-append : (xs ys : List InputSet) (values : List ℕ) → with_sets (xs ++ ys) values ≡ with_sets ys (with_sets xs values)
with_sets-append [] ys values = refl
with_sets-append (s ∷ xs) ys values = with_sets-append xs ys (slice_set values s.input s.value.value)

range_push : {X : Type 0} (xs : List X) (from to : ℕ) (x : X) → from ≤ to → to < length xs → x ≡ get_or xs to x → slice_range xs from (to + 1) ≡ slice_range xs from to ++ x ∷ []
range_push xs from to x in_order within is =
    let count : to + 1 - from ≡ (to - from) + 1 = omega arith in
    let at : from + (to - from) ≡ to = omega arith in
    let inside : to - from < length (drop from xs) = omega (arith, length-drop from xs) in
    ap (λ n. take n (drop from xs)) count ∙ take_more (drop from xs) (to - from) x inside
    ∙ ap (λ y. take (to - from) (drop from xs) ++ y ∷ []) (get_or-drop from xs (to - from) x ∙ ap (λ k. get_or xs k x) at ∙ sym is)

-- one more set was made
pub set_more : (sets : List InputSet) (from to : ℕ) (s : InputSet) (inputs : List Bits) (values : List ℕ) → from ≤ to → to < length sets → s ≡ get_or sets to s → values_of inputs ≡ with_sets (slice_range sets from to) values → values_of (set inputs s.input s.value) ≡ with_sets (slice_range sets from (to + 1)) values
set_more sets from to s inputs values in_order within is so_far =
    map-set (λ (b : Bits). b.value) inputs s.input s.value
    ∙ ap (λ vs. slice_set vs s.input s.value.value) so_far
    ∙ sym (with_sets-append (slice_range sets from to) (s ∷ []) values)
    ∙ ap (λ ss. with_sets ss values) (sym (range_push sets from to s in_order within is))

-- a set of the input's width
pub set_keeps_widths : (inputs : List Bits) (i : ℕ) (bits : Bits) → slice_get (widths_of inputs) i ≡ Some bits.width → widths_of (set inputs i bits) ≡ widths_of inputs
set_keeps_widths inputs i bits wide =
    let within : i < length inputs = omega (arith, slice_get_within (widths_of inputs) i bits.width wide, length-map inputs (λ (b : Bits). b.width)) in
    map-set_same (λ (b : Bits). b.width) inputs i bits bits (sym (get_or_from_slice_get (widths_of inputs) i bits.width bits.width wide) ∙ get_or-map (λ (b : Bits). b.width) inputs i bits bits.width within)

-- a default is not read within a list
pub read_same : {X : Type 0} (xs : List X) (i : ℕ) (d e : X) → i < length xs → get_or xs i d ≡ get_or xs i e
read_same xs i d e within = get_or_from_slice_get xs i (get_or xs i e) d (slice_get-get_or xs i e within)

-- ---- the sets that are due

later-leb : (row from : ℕ) → row < from → nat_le from row ≡ false
later-leb row from later = ⊎_elim (λ yes. absurd (omega (arith, yes.1, later))) (λ no. no.0) (leb_tells from row)

-- the settings that are made by a row
abbrev pub due_of : ℕ → List InputSet → List Setting
due_of row sets = filter (is_made_by row) (map setting_seen sets)

none_due : (row : ℕ) (sets : List InputSet) → ((i : ℕ) (d : InputSet) → i < length sets → row < (get_or sets i d).from) → due_of row sets ≡ []
none_due row [] later = refl
none_due row (s ∷ sets) later =
    ap (λ b. cond b (setting_seen s ∷ due_of row sets) (due_of row sets)) (later-leb row s.from (later 0 s (omega arith)))
    ∙ none_due row sets (λ i d within. later (suc i) d (omega arith))

pub due_front : (row k : ℕ) (sets : List InputSet) → k ≤ length sets → ((i : ℕ) (d : InputSet) → i < k → i < length sets → (get_or sets i d).from ≤ row) → ((i : ℕ) (d : InputSet) → k ≤ i → i < length sets → row < (get_or sets i d).from) → due_of row sets ≡ map setting_seen (take k sets)
due_front row zero [] fits due later = refl
due_front row (suc k) [] fits due later = refl
due_front row zero (s ∷ sets) fits due later = none_due row (s ∷ sets) (λ i d within. later i d (omega arith) within)
due_front row (suc k) (s ∷ sets) fits due later =
    ap (λ b. cond b (setting_seen s ∷ due_of row sets) (due_of row sets)) (le-leb s.from row (due 0 s (omega arith) (omega arith)))
    ∙ ap (λ xs. setting_seen s ∷ xs) (due_front row k sets (omega arith) (λ i d before within. due (suc i) d (omega arith) (omega arith)) (λ i d after within. later (suc i) d (omega arith) (omega arith)))

take-append-range : {X : Type 0} (xs : List X) (from to : ℕ) → from ≤ to → take from xs ++ slice_range xs from to ≡ take to xs
take-append-range xs from to in_order =
    let sum : from + (to - from) ≡ to = omega arith in
    sym (take-add from (to - from) xs) ∙ ap (λ n. take n xs) sum

pub none_made : (sets : List InputSet) (inputs : List Bits) (count : ℕ) → values_of inputs ≡ replicate count 0 → AreMade sets inputs 0 0 count
none_made sets inputs count clear = record { fits = omega arith; due = λ i d before. absurd (omega (arith, before)); values = clear }

module _ (sets : List InputSet) (before after : List Bits) (taken next row count : ℕ) (made : AreMade sets before taken row count) (in_order : taken ≤ next) (within : next ≤ length sets) (due : AllWithin (λ (s : InputSet). s.from ≤ row) sets taken next) (values : values_of after ≡ with_sets (slice_range sets taken next) (values_of before)) where
  all_due : (i : ℕ) (d : InputSet) → i < next → (get_or sets i d).from ≤ row
  all_due i d earlier = ⊎_elim (λ old. omega (arith, made.due i d old)) (λ new. due i d new earlier) (cases_lt i taken)

  all_values : values_of after ≡ with_sets (take next sets) (replicate count 0)
  all_values =
      values ∙ ap (with_sets (slice_range sets taken next)) made.values ∙ sym (with_sets-append (take taken sets) (slice_range sets taken next) (replicate count 0))
      ∙ ap (λ xs. with_sets xs (replicate count 0)) (take-append-range sets taken next in_order)

  pub more_made : AreMade sets after next (suc row) count
  more_made = record { fits = within; due = λ i d earlier. omega (arith, all_due i d earlier); values = all_values }

  pub values_are : ((s : InputSet) → next < length sets → slice_get sets next ≡ Some s → row < s.from) → IsNonDecreasingBy (λ (s : InputSet). s.from) sets → values_of after ≡ with_settings (due_of row sets) (replicate count 0)
  values_are later rising =
      all_values ∙ ap (λ xs. with_settings xs (replicate count 0)) (sym (due_front row next sets within (λ i d earlier inside. all_due i d earlier)
      (λ i d late inside.
      let first = later (get_or sets next d) (omega (arith, late, inside)) (slice_get-get_or sets next d (omega (arith, late, inside))) in
      omega (arith, first, rising next i d late inside))))
