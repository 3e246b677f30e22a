-- The words of memories, as numbers of 64 bits.
use Rattle.std.proofs.Common.{◌≡◌, ℕ, ◌+◌, ◌-◌, ◌*◌, ◌^◌, ◌<◌, ◌≤◌, List, [], ◌∷◌, Bool, true, false, ◌&&◌, ◌==◌, nat_lt, if◌then◌else◌, Option, Some, None, bit_and, length, replicate, refl, sym, ap, subst, ◌∙◌, arith}
use Rattle.std.specs.Prelude.{All, slice_index}
use Rattle.std.proofs.lemmas.List.{get_or-replicate, length-replicate}
use Rattle.std.proofs.lemmas.Nat.{and_mask, pow_pos}
use Rattle.std.proofs.Math.Nat.{mod-one}
use Rattle.hw_bits.proofs.WidthLemmas.{low_bits-lt}
use Rattle.hw_bits.specs.Width.{low_bits}
use Rattle.hw_prims.proofs.KeptLemmas.{no_words_padded}
use Rattle.hw_prims.specs.Meaning.{bit, next_state, opening_state, output_values}
use Rattle.hw_prims.specs.Memory.{place_of, word_at, word_count, word_width, words_with}
use Rattle.hw_prims.specs.State.{State, Memory}
use Rattle.hw_prims.specs.Table.{inputs_of, outputs_of, pin_widths}
use Rattle.hw_prims.specs.declared.prim.Primitive.{Primitive}
use Rattle.hw_prims.specs.declared.prim.Primitive.TheVariants.{StdMemD1, StdMemD2}
use Rattle.net_steps.specs.Gathered.{gathered}
use Rattle.net_steps.specs.inside.Words.{HasGrid, grid_place}
use Rattle.net_steps.specs.declared.words.Grid.{Grid}
use Rattle.net_steps.proofs.GatherLemmas.{gathered_at}

-- the low bits by a mask
masked : (width mask x : ℕ) → mask ≡ 2 ^ width - 1 → bit_and x mask ≡ low_bits width x
masked width mask x is = ap (bit_and x) is ∙ and_mask x width

-- no bits
masked_none : (mask x : ℕ) → mask ≡ 2 ^ 0 - 1 → bit_and x mask ≡ 0
masked_none mask x is = masked 0 mask x is ∙ mod-one x

-- a row is a place where there is one column
when : (b : Bool) (p q : ℕ) → p ≡ q → (if b then Some p else None) ≡ (if b && true then Some q else None)
when true p q e = ap Some e
when false p q e = refl

one_column : (size row : ℕ) → (if nat_lt row size then Some row else None) ≡ grid_place size 1 row 0
one_column size row = when (nat_lt row size) row (row * 1 + 0) (omega arith)

same_place : (rows rows' columns columns' row row' column column' : ℕ) → rows ≡ rows' → columns ≡ columns' → row ≡ row' → column ≡ column' → grid_place rows columns row column ≡ grid_place rows' columns' row' column'
same_place rows rows' columns columns' row row' column column' e f g h = rw (e, f, g, h) refl

-- the addressed word's number
pub place_is : (prim : Primitive) (grid : Grid) (slots places : List ℕ) → 4 ≤ length places → HasGrid prim grid →
    grid_place grid.rows grid.columns (bit_and (slice_index slots (slice_index places 0)) grid.row_mask) (bit_and (slice_index slots (slice_index places 1)) grid.column_mask)
    ≡ place_of prim (gathered slots places (pin_widths (inputs_of prim)))
unfolding place_of inputs_of
place_is (StdMemD1 w size idx) grid slots places four has =
    let first = slice_index slots (slice_index places 0) in
    let second = slice_index slots (slice_index places 1) in
    let at : slice_index (gathered slots places (idx ∷ w ∷ 1 ∷ [])) 0 ≡ low_bits idx first = gathered_at slots places (idx ∷ w ∷ 1 ∷ []) 0 (omega arith) (omega (arith, four)) in
    same_place grid.rows size grid.columns 1 (bit_and first grid.row_mask) (low_bits idx first) (bit_and second grid.column_mask) 0 has.rows_are has.columns_are (masked idx grid.row_mask first has.row_bits) (masked_none grid.column_mask second has.column_bits)
    ∙ sym (one_column size (low_bits idx first))
    ∙ sym (ap (λ (row : ℕ). if nat_lt row size then Some row else None) at)
place_is (StdMemD2 w size0 size1 idx0 idx1) grid slots places four has =
    let first = slice_index slots (slice_index places 0) in
    let second = slice_index slots (slice_index places 1) in
    let widths : List ℕ = idx0 ∷ idx1 ∷ w ∷ 1 ∷ [] in
    let at : slice_index (gathered slots places widths) 0 ≡ low_bits idx0 first = gathered_at slots places widths 0 (omega arith) (omega (arith, four)) in
    let next : slice_index (gathered slots places widths) 1 ≡ low_bits idx1 second = gathered_at slots places widths 1 (omega arith) (omega (arith, four)) in
    same_place grid.rows size0 grid.columns size1 (bit_and first grid.row_mask) (slice_index (gathered slots places widths) 0) (bit_and second grid.column_mask) (slice_index (gathered slots places widths) 1) has.rows_are has.columns_are
    (masked idx0 grid.row_mask first has.row_bits ∙ sym at) (masked idx1 grid.column_mask second has.column_bits ∙ sym next)
place_is prim grid slots places four has = absurd has

-- places lie within the memory
pub room_is : (prim : Primitive) (grid : Grid) → HasGrid prim grid → grid.rows * grid.columns ≤ 65536
room_is (StdMemD1 w size idx) grid has = rw (has.rows_are, has.columns_are) has.room
room_is (StdMemD2 w size0 size1 idx0 idx1) grid has = rw (has.rows_are, has.columns_are) has.room
room_is prim grid has = absurd has

pub count_is : (prim : Primitive) (grid : Grid) → HasGrid prim grid → grid.rows * grid.columns ≡ word_count prim
unfolding word_count
count_is (StdMemD1 w size idx) grid has = rw (has.rows_are, has.columns_are) (let e : size * 1 ≡ size = omega arith in e)
count_is (StdMemD2 w size0 size1 idx0 idx1) grid has = rw (has.rows_are, has.columns_are) refl
count_is prim grid has = absurd has

-- the width of a word
pub word_wide : (prim : Primitive) (grid : Grid) → HasGrid prim grid → 1 ≤ word_width prim
unfolding word_width
word_wide (StdMemD1 w size idx) grid has = has.wide
word_wide (StdMemD2 w size0 size1 idx0 idx1) grid has = has.wide
word_wide prim grid has = absurd has

pub word_narrow : (prim : Primitive) (grid : Grid) → HasGrid prim grid → word_width prim ≤ 64
unfolding word_width
word_narrow (StdMemD1 w size idx) grid has = has.narrow
word_narrow (StdMemD2 w size0 size1 idx0 idx1) grid has = has.narrow
word_narrow prim grid has = absurd has

fits_by : (w mask x : ℕ) → mask ≡ 2 ^ w - 1 → bit_and x mask < 2 ^ w
fits_by w mask x is = subst (λ v. v < 2 ^ w) (sym (masked w mask x is)) (low_bits-lt w x)

-- what is written fits
pub word_fits : (prim : Primitive) (grid : Grid) (x : ℕ) → HasGrid prim grid → bit_and x grid.word_mask < 2 ^ word_width prim
unfolding word_width
word_fits (StdMemD1 w size idx) grid x has = fits_by w grid.word_mask x has.word_bits
word_fits (StdMemD2 w size0 size1 idx0 idx1) grid x has = fits_by w grid.word_mask x has.word_bits
word_fits prim grid x has = absurd has

-- the opening state
pub opening_is : (prim : Primitive) (grid : Grid) → HasGrid prim grid → opening_state prim [] ≡ Memory (replicate (word_count prim) 0) 0
unfolding opening_state word_count
opening_is (StdMemD1 w size idx) grid has = ap (λ (ws : List ℕ). Memory ws 0) (no_words_padded size)
opening_is (StdMemD2 w size0 size1 idx0 idx1) grid has = ap (λ (ws : List ℕ). Memory ws 0) (no_words_padded (size0 * size1))
opening_is prim grid has = absurd has

pub zeros_fit : (count width : ℕ) → All (λ word. word < 2 ^ width) (replicate count 0)
zeros_fit count width i d lt =
    let long : length (replicate count 0) ≡ count = length-replicate {A = ℕ} count 0 in
    let within : i < count = omega (arith, lt, long) in
    subst (λ v. v < 2 ^ width) (sym (get_or-replicate count i 0 d within)) (pow_pos width)

-- the outputs
first_output : (prim : Primitive) (grid : Grid) (ins words : List ℕ) (done : ℕ) → HasGrid prim grid → slice_index (output_values prim (Memory words done) ins) 0 ≡ word_at words (place_of prim ins)
unfolding output_values
first_output (StdMemD1 w size idx) grid ins words done has = refl
first_output (StdMemD2 w size0 size1 idx0 idx1) grid ins words done has = refl
first_output prim grid ins words done has = absurd has

second_output : (prim : Primitive) (grid : Grid) (ins words : List ℕ) (done : ℕ) → HasGrid prim grid → slice_index (output_values prim (Memory words done) ins) 1 ≡ done
unfolding output_values
second_output (StdMemD1 w size idx) grid ins words done has = refl
second_output (StdMemD2 w size0 size1 idx0 idx1) grid ins words done has = refl
second_output prim grid ins words done has = absurd has

pub read_is : (prim : Primitive) (grid : Grid) (ins words : List ℕ) (done output : ℕ) → HasGrid prim grid → output ≤ 0 →
    slice_index (output_values prim (Memory words done) ins) output ≡ word_at words (place_of prim ins)
read_is prim grid ins words done output has none =
    let is : output ≡ 0 = omega (arith, none) in
    ap (slice_index (output_values prim (Memory words done) ins)) is ∙ first_output prim grid ins words done has

pub done_is : (prim : Primitive) (grid : Grid) (ins words : List ℕ) (done output : ℕ) → HasGrid prim grid → 0 < output → output < 2 →
    slice_index (output_values prim (Memory words done) ins) output ≡ done
done_is prim grid ins words done output has some few =
    let is : output ≡ 1 = omega (arith, some, few) in
    ap (slice_index (output_values prim (Memory words done) ins)) is ∙ second_output prim grid ins words done has

pub output_count : (prim : Primitive) (grid : Grid) → HasGrid prim grid → length (outputs_of prim) ≡ 2
unfolding outputs_of
output_count (StdMemD1 w size idx) grid has = refl
output_count (StdMemD2 w size0 size1 idx0 idx1) grid has = refl
output_count prim grid has = absurd has

-- the edge
edge_of : (words : List ℕ) (place : Option ℕ) (word : ℕ) (on : Bool) → State
edge_of words place word on = if on then Memory (words_with words place word) 1 else Memory words 0

written : (words : List ℕ) (place : Option ℕ) (on on' word word' : ℕ) → on ≡ on' → word ≡ word' → edge_of words place word (on == 1) ≡ edge_of words place word' (on' == 1)
written words place on on' word word' e f = rw (e, f) refl

next_is : (prim : Primitive) (grid : Grid) (slots places words : List ℕ) (done : ℕ) → 4 ≤ length places → HasGrid prim grid →
    next_state prim (Memory words done) (gathered slots places (pin_widths (inputs_of prim)))
    ≡ edge_of words (place_of prim (gathered slots places (pin_widths (inputs_of prim)))) (bit_and (slice_index slots (slice_index places grid.input)) grid.word_mask) (bit_and (slice_index slots (slice_index places (grid.input + 1))) 1 == 1)
unfolding next_state inputs_of edge_of
next_is (StdMemD1 w size idx) grid slots places words done four has =
    let widths : List ℕ = idx ∷ w ∷ 1 ∷ [] in
    written words (place_of (StdMemD1 w size idx) (gathered slots places widths)) _ _ _ _
    (gathered_at slots places widths 2 (omega arith) (omega (arith, four)) ∙ sym (and_mask (slice_index slots (slice_index places 2)) 1) ∙ ap (λ n. bit_and (slice_index slots (slice_index places (n + 1))) 1) (sym has.input_number))
    (gathered_at slots places widths 1 (omega arith) (omega (arith, four)) ∙ sym (masked w grid.word_mask (slice_index slots (slice_index places 1)) has.word_bits) ∙ ap (λ n. bit_and (slice_index slots (slice_index places n)) grid.word_mask) (sym has.input_number))
next_is (StdMemD2 w size0 size1 idx0 idx1) grid slots places words done four has =
    let widths : List ℕ = idx0 ∷ idx1 ∷ w ∷ 1 ∷ [] in
    written words (place_of (StdMemD2 w size0 size1 idx0 idx1) (gathered slots places widths)) _ _ _ _
    (gathered_at slots places widths 3 (omega arith) (omega (arith, four)) ∙ sym (and_mask (slice_index slots (slice_index places 3)) 1) ∙ ap (λ n. bit_and (slice_index slots (slice_index places (n + 1))) 1) (sym has.input_number))
    (gathered_at slots places widths 2 (omega arith) (omega (arith, four)) ∙ sym (masked w grid.word_mask (slice_index slots (slice_index places 2)) has.word_bits) ∙ ap (λ n. bit_and (slice_index slots (slice_index places n)) grid.word_mask) (sym has.input_number))
next_is prim grid slots places words done four has = absurd has

moved : (words : List ℕ) (place : Option ℕ) (word : ℕ) (on : Bool) → Memory (if on then words_with words place word else words) (bit on) ≡ edge_of words place word on
unfolding edge_of
moved words place word true = refl
moved words place word false = refl

-- the state after the edge, by the words that it leaves
pub edge_is : (prim : Primitive) (grid : Grid) (slots places words new : List ℕ) (done : ℕ) (place : Option ℕ) → 4 ≤ length places → HasGrid prim grid →
    place ≡ place_of prim (gathered slots places (pin_widths (inputs_of prim))) →
    new ≡ (if bit_and (slice_index slots (slice_index places (grid.input + 1))) 1 == 1 then words_with words place (bit_and (slice_index slots (slice_index places grid.input)) grid.word_mask) else words) →
    Memory new (bit (bit_and (slice_index slots (slice_index places (grid.input + 1))) 1 == 1)) ≡ next_state prim (Memory words done) (gathered slots places (pin_widths (inputs_of prim)))
edge_is prim grid slots places words new done place four has at is =
    let on = bit_and (slice_index slots (slice_index places (grid.input + 1))) 1 == 1 in
    let word = bit_and (slice_index slots (slice_index places grid.input)) grid.word_mask in
    ap (λ (ws : List ℕ). Memory ws (bit on)) is
    ∙ moved words place word on
    ∙ ap (λ (p : Option ℕ). edge_of words p word on) at
    ∙ sym (next_is prim grid slots places words done four has)

pub written_on : (on : Bool) (words new : List ℕ) → on ≡ true → new ≡ (if on then new else words)
written_on true words new is = refl
written_on false words new is = absurd cc

pub kept_off : (on : Bool) (words new : List ℕ) → on ≡ false → words ≡ (if on then new else words)
kept_off true words new is = absurd cc
kept_off false words new is = refl

pub none_is : (place : Option ℕ) → ((p : ℕ) → place ≡ Some p → ⊥) → place ≡ None
none_is None none = refl
none_is (Some p) none = absurd (none p refl)
