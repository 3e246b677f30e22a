-- The outputs of cells without a state.
use Rattle.std.proofs.Common.{◌≡◌, ℕ, ◌+◌, ◌-◌, ◌*◌, ◌^◌, ◌<◌, ◌≤◌, max, [], ◌∷◌, Bool, true, false, refl, ap, ap₂, ◌∙◌, lit<, arith}
use Rattle.std.proofs.lemmas.Bool.Decides.{nat_tests}
use Rattle.std.proofs.lemmas.Nat.{mul-add-lt, or_lt, xor_lt}
use Rattle.std.specs.Prelude.{codes, ◌==◌, ◌&&◌, not, nat_lt, nat_le, if◌then◌else◌, option_map, Option, Some, bit_and, bit_or, bit_xor}
use Rattle.hw_bits.specs.Width.{low_bits, bits_between, joined_bits}
use Rattle.hw_bits.proofs.WidthLemmas.{low_bits-lt, low_bits-of_lt, bits_between-lt, bit_and-lt, joined_bits-lt, lt-wider}
use Rattle.hw_names.specs.Name.{Text, dotted}
use Rattle.hw_prims.specs.Meaning.{output_values}
use Rattle.hw_prims.specs.Laws.{IsStateOf}
use Rattle.hw_prims.specs.Memory.{place_of}
use Rattle.hw_prims.specs.State.{State, Memory}
use Rattle.hw_prims.proofs.PrimLemmas.{keeps_widths}
use Rattle.hw_prims.specs.Table.{IsMade, is_made, inputs_of, outputs_of, pin}
use Rattle.hw_prims.specs.declared.prim.Primitive.{Primitive}
use Rattle.hw_prims.specs.declared.prim.Primitive.TheVariants.{StdConst, StdWire, StdAdd, StdSub, StdAnd, StdOr, StdXor, StdNot, StdEq, StdNeq, StdLt, StdGt, StdLe, StdGe, StdLsh, StdRsh, StdSlice, StdPad, FilMux, FilSlice, FilConcat, StdReg, StdMemD1, StdMemD2, StdMultPipe, FilDelay, FilFastMult, FilSeqMult}
use Rattle.ver_lang.specs.CellItems.{below, both_tests, cell_items, d2_index, fitted, index_width}
use Rattle.ver_lang.specs.CellLaws.{CellCycle, CellsShowOutputs, ShowsOutputs, inputs_in}
use Rattle.ver_lang.specs.Size.{Widths}
use Rattle.ver_lang.specs.Value.{Cycle, bit}
use Rattle.ver_lang.proofs.MemoryLemmas.{below_test, both_test, d2_value, fitted_value, index_reaches, index_some, read_is}
use Rattle.ver_lang.proofs.StateLemmas.{shows_delay, shows_fast_mult, shows_mult_pipe, shows_reg, shows_seq_mult}
use Rattle.ver_lang.proofs.GivenLemmas.{choice_given, difference_given, fits_given, inverse_given, left_shift_given, lower_bits, part_is, padded_value, right_shift_given, test_given, wrapped_given}

-- one value that is given
one_given : (v w : ℕ) → v ≡ w → Some v ∷ [] ≡ Some w ∷ []
one_given v w is = ap (λ (n : ℕ). Some n ∷ []) is

-- one that comes of a value
target_given : (o v w : ℕ) (gives : Option ℕ) → gives ≡ Some v → low_bits o v ≡ w → option_map (low_bits o) gives ∷ [] ≡ Some w ∷ []
target_given o v w gives is cut = ap (λ (g : Option ℕ). option_map (low_bits o) g ∷ []) is ∙ one_given (low_bits o v) w cut

module _ (cell : Text) (widths : Widths) (now : Cycle) (state : State) where
  -- a value of the cell's port
  abbrev at : Text → ℕ
  at port = now.row (dotted cell port)

  abbrev wide : Text → ℕ
  wide port = widths (dotted cell port)

  shows_const : (w v : ℕ) → CellCycle cell (StdConst w v) widths now state → ShowsOutputs cell (StdConst w v) widths now state
  unfolding cell_items inputs_of outputs_of output_values is_made
  shows_const w v c =
      let out : wide (codes "out") ≡ w = c.declared.pins (pin (codes "out") w) (0, lit< tt, refl) in
      let made : IsMade (StdConst w v) = c.made in
      let fits : v < 2 ^ w = grind (arith, nat_tests) in
      record {
        driven = refl;
        given = one_given (low_bits (wide (codes "out")) (low_bits w v)) v (ap (low_bits (wide (codes "out"))) (low_bits-of_lt w v fits) ∙ fits_given (wide (codes "out")) w v out fits);
      }

  shows_wire : (w : ℕ) → CellCycle cell (StdWire w) widths now state → ShowsOutputs cell (StdWire w) widths now state
  unfolding cell_items inputs_of outputs_of output_values
  shows_wire w c =
      let out : wide (codes "out") ≡ w = c.declared.pins (pin (codes "out") w) (1, lit< tt, refl) in
      record { driven = refl; given = one_given (low_bits (wide (codes "out")) (at (codes "in"))) (at (codes "in")) (fits_given (wide (codes "out")) w (at (codes "in")) out c.inputs_fit.0) }

  shows_add : (w : ℕ) → CellCycle cell (StdAdd w) widths now state → ShowsOutputs cell (StdAdd w) widths now state
  unfolding cell_items inputs_of outputs_of output_values
  shows_add w c =
      let out : wide (codes "out") ≡ w = c.declared.pins (pin (codes "out") w) (2, lit< tt, refl) in
      let wider : w ≤ max (wide (codes "out")) (max (wide (codes "left")) (wide (codes "right"))) = omega arith in
      record { driven = refl; given = one_given _ _ (wrapped_given (wide (codes "out")) w (max (wide (codes "out")) (max (wide (codes "left")) (wide (codes "right")))) (at (codes "left") + at (codes "right")) out wider) }

  shows_sub : (w : ℕ) → CellCycle cell (StdSub w) widths now state → ShowsOutputs cell (StdSub w) widths now state
  unfolding cell_items inputs_of outputs_of output_values
  shows_sub w c =
      let out : wide (codes "out") ≡ w = c.declared.pins (pin (codes "out") w) (2, lit< tt, refl) in
      let wider : w ≤ max (wide (codes "out")) (max (wide (codes "left")) (wide (codes "right"))) = omega arith in
      record { driven = refl; given = one_given _ _ (difference_given (wide (codes "out")) w (max (wide (codes "out")) (max (wide (codes "left")) (wide (codes "right")))) (at (codes "left")) (at (codes "right")) out wider c.inputs_fit.1.0) }

  shows_and : (w : ℕ) → CellCycle cell (StdAnd w) widths now state → ShowsOutputs cell (StdAnd w) widths now state
  unfolding cell_items inputs_of outputs_of output_values
  shows_and w c =
      let out : wide (codes "out") ≡ w = c.declared.pins (pin (codes "out") w) (2, lit< tt, refl) in
      let v : ℕ = bit_and (at (codes "left")) (at (codes "right")) in
      record { driven = refl; given = one_given _ _ (fits_given (wide (codes "out")) w v out (bit_and-lt w (at (codes "left")) (at (codes "right")) c.inputs_fit.0)) }

  shows_or : (w : ℕ) → CellCycle cell (StdOr w) widths now state → ShowsOutputs cell (StdOr w) widths now state
  unfolding cell_items inputs_of outputs_of output_values
  shows_or w c =
      let out : wide (codes "out") ≡ w = c.declared.pins (pin (codes "out") w) (2, lit< tt, refl) in
      let v : ℕ = bit_or (at (codes "left")) (at (codes "right")) in
      record { driven = refl; given = one_given _ _ (fits_given (wide (codes "out")) w v out (or_lt w (at (codes "left")) (at (codes "right")) c.inputs_fit.0 c.inputs_fit.1.0)) }

  shows_xor : (w : ℕ) → CellCycle cell (StdXor w) widths now state → ShowsOutputs cell (StdXor w) widths now state
  unfolding cell_items inputs_of outputs_of output_values
  shows_xor w c =
      let out : wide (codes "out") ≡ w = c.declared.pins (pin (codes "out") w) (2, lit< tt, refl) in
      let v : ℕ = bit_xor (at (codes "left")) (at (codes "right")) in
      record { driven = refl; given = one_given _ _ (fits_given (wide (codes "out")) w v out (xor_lt w (at (codes "left")) (at (codes "right")) c.inputs_fit.0 c.inputs_fit.1.0)) }

  shows_not : (w : ℕ) → CellCycle cell (StdNot w) widths now state → ShowsOutputs cell (StdNot w) widths now state
  unfolding cell_items inputs_of outputs_of output_values
  shows_not w c =
      let out : wide (codes "out") ≡ w = c.declared.pins (pin (codes "out") w) (1, lit< tt, refl) in
      let operand : wide (codes "in") ≡ w = c.declared.pins (pin (codes "in") w) (0, lit< tt, refl) in
      let context : max (wide (codes "out")) (wide (codes "in")) ≡ w = omega arith in
      record { driven = refl; given = one_given _ _ (inverse_given (wide (codes "out")) w (max (wide (codes "out")) (wide (codes "in"))) (at (codes "in")) out context) }

  -- the outcome of a comparison
  tested : (prim_out : wide (codes "out") ≡ 1) (passed : Bool) → Some (low_bits (wide (codes "out")) (bit passed)) ∷ [] ≡ Some (bit passed) ∷ []
  tested prim_out passed = one_given _ _ (test_given (wide (codes "out")) passed prim_out)

  shows_eq : (w : ℕ) → CellCycle cell (StdEq w) widths now state → ShowsOutputs cell (StdEq w) widths now state
  unfolding cell_items inputs_of outputs_of output_values
  shows_eq w c = record { driven = refl; given = tested (c.declared.pins (pin (codes "out") 1) (2, lit< tt, refl)) (at (codes "left") == at (codes "right")) }

  shows_neq : (w : ℕ) → CellCycle cell (StdNeq w) widths now state → ShowsOutputs cell (StdNeq w) widths now state
  unfolding cell_items inputs_of outputs_of output_values
  shows_neq w c = record { driven = refl; given = tested (c.declared.pins (pin (codes "out") 1) (2, lit< tt, refl)) (not (at (codes "left") == at (codes "right"))) }

  shows_lt : (w : ℕ) → CellCycle cell (StdLt w) widths now state → ShowsOutputs cell (StdLt w) widths now state
  unfolding cell_items inputs_of outputs_of output_values
  shows_lt w c = record { driven = refl; given = tested (c.declared.pins (pin (codes "out") 1) (2, lit< tt, refl)) (nat_lt (at (codes "left")) (at (codes "right"))) }

  shows_gt : (w : ℕ) → CellCycle cell (StdGt w) widths now state → ShowsOutputs cell (StdGt w) widths now state
  unfolding cell_items inputs_of outputs_of output_values
  shows_gt w c = record { driven = refl; given = tested (c.declared.pins (pin (codes "out") 1) (2, lit< tt, refl)) (nat_lt (at (codes "right")) (at (codes "left"))) }

  shows_le : (w : ℕ) → CellCycle cell (StdLe w) widths now state → ShowsOutputs cell (StdLe w) widths now state
  unfolding cell_items inputs_of outputs_of output_values
  shows_le w c = record { driven = refl; given = tested (c.declared.pins (pin (codes "out") 1) (2, lit< tt, refl)) (nat_le (at (codes "left")) (at (codes "right"))) }

  shows_ge : (w : ℕ) → CellCycle cell (StdGe w) widths now state → ShowsOutputs cell (StdGe w) widths now state
  unfolding cell_items inputs_of outputs_of output_values
  shows_ge w c = record { driven = refl; given = tested (c.declared.pins (pin (codes "out") 1) (2, lit< tt, refl)) (nat_le (at (codes "right")) (at (codes "left"))) }

  shows_lsh : (w : ℕ) → CellCycle cell (StdLsh w) widths now state → ShowsOutputs cell (StdLsh w) widths now state
  unfolding cell_items inputs_of outputs_of output_values
  shows_lsh w c =
      let out : wide (codes "out") ≡ w = c.declared.pins (pin (codes "out") w) (2, lit< tt, refl) in
      let wider : w ≤ max (wide (codes "out")) (wide (codes "left")) = omega arith in
      record { driven = refl; given = one_given _ _ (left_shift_given (wide (codes "out")) w (max (wide (codes "out")) (wide (codes "left"))) (at (codes "left")) (at (codes "right")) out wider) }

  shows_rsh : (w : ℕ) → CellCycle cell (StdRsh w) widths now state → ShowsOutputs cell (StdRsh w) widths now state
  unfolding cell_items inputs_of outputs_of output_values
  shows_rsh w c =
      let out : wide (codes "out") ≡ w = c.declared.pins (pin (codes "out") w) (2, lit< tt, refl) in
      record { driven = refl; given = one_given _ _ (right_shift_given (wide (codes "out")) w (at (codes "left")) (at (codes "right")) out c.inputs_fit.0) }

  shows_slice : (i o : ℕ) → CellCycle cell (StdSlice i o) widths now state → ShowsOutputs cell (StdSlice i o) widths now state
  unfolding cell_items inputs_of outputs_of output_values is_made
  shows_slice i o c =
      let out : wide (codes "out") ≡ o = c.declared.pins (pin (codes "out") o) (1, lit< tt, refl) in
      let operand : wide (codes "in") ≡ i = c.declared.pins (pin (codes "in") i) (0, lit< tt, refl) in
      let made : IsMade (StdSlice i o) = c.made in
      let some : 1 ≤ o = grind (arith, nat_tests) in
      let narrower : o ≤ i = grind (arith, nat_tests) in
      let there : o - 1 < wide (codes "in") = omega arith in
      let x : ℕ = at (codes "in") in
      let fits : low_bits o x < 2 ^ o = low_bits-lt o x in
      record {
        driven = refl;
        given = target_given (wide (codes "out")) (low_bits o x) (low_bits o x) _ (part_is (wide (codes "in")) x (o - 1) 0 (omega arith) there ∙ ap (λ (v : ℕ). Some v) (lower_bits o x some)) (fits_given (wide (codes "out")) o (low_bits o x) out fits);
      }

  shows_part : (w hi lo : ℕ) → CellCycle cell (FilSlice w hi lo) widths now state → ShowsOutputs cell (FilSlice w hi lo) widths now state
  unfolding cell_items inputs_of outputs_of output_values is_made
  shows_part w hi lo c =
      let out : wide (codes "out") ≡ hi + 1 - lo = c.declared.pins (pin (codes "out") (hi + 1 - lo)) (1, lit< tt, refl) in
      let operand : wide (codes "in") ≡ w = c.declared.pins (pin (codes "in") w) (0, lit< tt, refl) in
      let made : IsMade (FilSlice w hi lo) = c.made in
      let ordered : lo ≤ hi = grind (arith, nat_tests) in
      let below : hi < w = grind (arith, nat_tests) in
      let there : hi < wide (codes "in") = omega arith in
      let x : ℕ = at (codes "in") in
      record {
        driven = refl;
        given = target_given (wide (codes "out")) (bits_between x hi lo) (bits_between x hi lo) _ (part_is (wide (codes "in")) x hi lo ordered there) (fits_given (wide (codes "out")) (hi + 1 - lo) (bits_between x hi lo) out (bits_between-lt x hi lo));
      }

  shows_pad : (i o : ℕ) → CellCycle cell (StdPad i o) widths now state → ShowsOutputs cell (StdPad i o) widths now state
  unfolding cell_items inputs_of outputs_of output_values is_made
  shows_pad i o c =
      let out : wide (codes "out") ≡ o = c.declared.pins (pin (codes "out") o) (1, lit< tt, refl) in
      let made : IsMade (StdPad i o) = c.made in
      let wider : i ≤ o = grind (arith, nat_tests) in
      let x : ℕ = at (codes "in") in
      record {
        driven = refl;
        given = target_given (wide (codes "out")) x x _ (padded_value widths now _ (o - i) (dotted cell (codes "in"))) (fits_given (wide (codes "out")) o x out (lt-wider i o x wider c.inputs_fit.0));
      }

  shows_mux : (w : ℕ) → CellCycle cell (FilMux w) widths now state → ShowsOutputs cell (FilMux w) widths now state
  unfolding cell_items inputs_of outputs_of output_values
  shows_mux w c =
      let out : wide (codes "out") ≡ w = c.declared.pins (pin (codes "out") w) (3, lit< tt, refl) in
      let sel : ℕ = at (codes "sel") in
      let tru : ℕ = at (codes "tru") in
      let fal : ℕ = at (codes "fal") in
      let one_bit : sel < 2 = c.inputs_fit.0 in
      record {
        driven = refl;
        given = target_given (wide (codes "out")) (if sel == 1 then tru else fal) (if sel == 1 then tru else fal) _ (choice_given sel tru fal one_bit) (fits_given (wide (codes "out")) w (if sel == 1 then tru else fal) out (chosen_fits (sel == 1) c.inputs_fit.1.0 c.inputs_fit.1.1.0));
      }
    where
      chosen_fits : (on : Bool) → at (codes "tru") < 2 ^ w → at (codes "fal") < 2 ^ w → (if on then at (codes "tru") else at (codes "fal")) < 2 ^ w
      chosen_fits true left right = left
      chosen_fits false left right = right

  shows_concat : (a b : ℕ) → CellCycle cell (FilConcat a b) widths now state → ShowsOutputs cell (FilConcat a b) widths now state
  unfolding cell_items inputs_of outputs_of output_values
  shows_concat a b c =
      let out : wide (codes "out") ≡ a + b = c.declared.pins (pin (codes "out") (a + b)) (2, lit< tt, refl) in
      let low : wide (codes "low") ≡ b = c.declared.pins (pin (codes "low") b) (1, lit< tt, refl) in
      let v : ℕ = joined_bits b (at (codes "high")) (at (codes "low")) in
      let one_width : joined_bits (wide (codes "low")) (at (codes "high")) (at (codes "low")) ≡ v = ap (λ (n : ℕ). joined_bits n (at (codes "high")) (at (codes "low"))) low in
      let fits : v < 2 ^ (a + b) = joined_bits-lt a b (at (codes "high")) (at (codes "low")) c.inputs_fit.0 c.inputs_fit.1.0 in
      record { driven = refl; given = one_given _ _ (ap (low_bits (wide (codes "out"))) one_width ∙ fits_given (wide (codes "out")) (a + b) v out fits) }

  -- two values that are given, the first by a value
  both_given : (o p v held u : ℕ) (gives : Option ℕ) → gives ≡ Some v → low_bits o v ≡ v → low_bits p held ≡ u →
      option_map (low_bits o) gives ∷ Some (low_bits p held) ∷ [] ≡ Some v ∷ Some u ∷ []
  both_given o p v held u gives is cut held_is =
      ap₂ (λ (g : Option ℕ) (n : ℕ). option_map (low_bits o) g ∷ Some n ∷ []) is held_is ∙ ap (λ (n : ℕ). Some n ∷ Some u ∷ []) cut

  shows_d1 : (w count idx : ℕ) (kept : State) → CellCycle cell (StdMemD1 w count idx) widths now kept → ShowsOutputs cell (StdMemD1 w count idx) widths now kept
  unfolding cell_items inputs_of outputs_of output_values is_made place_of IsStateOf
  shows_d1 w count idx (Memory words done) c =
      let read_wide : wide (codes "read_data") ≡ w = c.declared.pins (pin (codes "read_data") w) (3, lit< tt, refl) in
      let done_wide : wide (codes "done") ≡ 1 = c.declared.pins (pin (codes "done") 1) (4, lit< tt, refl) in
      let address_wide : wide (codes "addr0") ≡ idx = c.declared.pins (pin (codes "addr0") idx) (0, lit< tt, refl) in
      let made : IsMade (StdMemD1 w count idx) = c.made in
      let few : count ≤ 65536 = grind (arith, nat_tests) in
      let reach : count ≤ 2 ^ index_width count = index_reaches count few in
      let a : ℕ = at (codes "addr0") in
      let fit = (keeps_widths (StdMemD1 w count idx) c.made).outputs (Memory words done) (inputs_in cell (StdMemD1 w count idx) now) c.state_fits c.inputs_fit in
      let given = read_is widths now (below cell (codes "addr0") idx count) (dotted cell (codes "$0")) (fitted cell (codes "addr0") idx (index_width count)) words w _ a (nat_lt a count) c.held.0
      (below_test cell widths now (codes "addr0") idx count c.inputs_fit.0)
      (λ passed.
      let within : a < count = grind (arith, nat_tests) in
      let small : a < 2 ^ index_width count = omega arith in
      (fitted_value cell widths now (codes "addr0") idx (index_width count) _ address_wide (index_some count) small, omega (arith, c.state_fits.0))) in
      record {
        driven = refl;
        given = both_given (wide (codes "read_data")) (wide (codes "done")) _ (at (codes "$1")) done _ given
            (fits_given (wide (codes "read_data")) w _ read_wide fit.0)
            (ap (low_bits (wide (codes "done"))) c.held.1 ∙ fits_given (wide (codes "done")) 1 done done_wide c.state_fits.2);
      }
  shows_d1 w count idx kept c = absurd c.state_fits

  shows_d2 : (w size0 size1 idx0 idx1 : ℕ) (kept : State) → CellCycle cell (StdMemD2 w size0 size1 idx0 idx1) widths now kept → ShowsOutputs cell (StdMemD2 w size0 size1 idx0 idx1) widths now kept
  unfolding cell_items inputs_of outputs_of output_values is_made place_of IsStateOf
  shows_d2 w size0 size1 idx0 idx1 (Memory words done) c =
      let prim : Primitive = StdMemD2 w size0 size1 idx0 idx1 in
      let read_wide : wide (codes "read_data") ≡ w = c.declared.pins (pin (codes "read_data") w) (4, lit< tt, refl) in
      let done_wide : wide (codes "done") ≡ 1 = c.declared.pins (pin (codes "done") 1) (5, lit< tt, refl) in
      let row_wide : wide (codes "addr0") ≡ idx0 = c.declared.pins (pin (codes "addr0") idx0) (0, lit< tt, refl) in
      let column_wide : wide (codes "addr1") ≡ idx1 = c.declared.pins (pin (codes "addr1") idx1) (1, lit< tt, refl) in
      let made : IsMade (StdMemD2 w size0 size1 idx0 idx1) = c.made in
      let few : size0 * size1 ≤ 65536 = grind (arith, nat_tests) in
      let a : ℕ = at (codes "addr0") in
      let b : ℕ = at (codes "addr1") in
      let fit = (keeps_widths prim c.made).outputs (Memory words done) (inputs_in cell prim now) c.state_fits c.inputs_fit in
      let row_test = below_test cell widths now (codes "addr0") idx0 size0 c.inputs_fit.0 in
      let column_test = below_test cell widths now (codes "addr1") idx1 size1 c.inputs_fit.1.0 in
      let test = both_test widths now (below cell (codes "addr0") idx0 size0) (below cell (codes "addr1") idx1 size1) (nat_lt a size0) (nat_lt b size1) row_test column_test in
      let given = read_is widths now (both_tests (below cell (codes "addr0") idx0 size0) (below cell (codes "addr1") idx1 size1)) (dotted cell (codes "$0")) (d2_index cell size0 size1 idx0 idx1) words w _ (a * size1 + b) (nat_lt a size0 && nat_lt b size1) c.held.0
      test
      (λ passed.
      let row_below : a < size0 = grind (arith, nat_tests) in
      let column_below : b < size1 = grind (arith, nat_tests) in
      let within : a * size1 + b < size1 * size0 = mul-add-lt a size1 b size0 row_below column_below in
      (d2_value cell widths now size0 size1 idx0 idx1 row_wide column_wide row_below column_below few, omega (arith, c.state_fits.0))) in
      record {
        driven = refl;
        given = both_given (wide (codes "read_data")) (wide (codes "done")) _ (at (codes "$1")) done _ given
            (fits_given (wide (codes "read_data")) w _ read_wide fit.0)
            (ap (low_bits (wide (codes "done"))) c.held.1 ∙ fits_given (wide (codes "done")) 1 done done_wide c.state_fits.2);
      }
  shows_d2 w size0 size1 idx0 idx1 kept c = absurd c.state_fits

pub cells_show : CellsShowOutputs
cells_show cell (StdConst w v) widths now state c = shows_const cell widths now state w v c
cells_show cell (StdWire w) widths now state c = shows_wire cell widths now state w c
cells_show cell (StdAdd w) widths now state c = shows_add cell widths now state w c
cells_show cell (StdSub w) widths now state c = shows_sub cell widths now state w c
cells_show cell (StdAnd w) widths now state c = shows_and cell widths now state w c
cells_show cell (StdOr w) widths now state c = shows_or cell widths now state w c
cells_show cell (StdXor w) widths now state c = shows_xor cell widths now state w c
cells_show cell (StdNot w) widths now state c = shows_not cell widths now state w c
cells_show cell (StdEq w) widths now state c = shows_eq cell widths now state w c
cells_show cell (StdNeq w) widths now state c = shows_neq cell widths now state w c
cells_show cell (StdLt w) widths now state c = shows_lt cell widths now state w c
cells_show cell (StdGt w) widths now state c = shows_gt cell widths now state w c
cells_show cell (StdLe w) widths now state c = shows_le cell widths now state w c
cells_show cell (StdGe w) widths now state c = shows_ge cell widths now state w c
cells_show cell (StdLsh w) widths now state c = shows_lsh cell widths now state w c
cells_show cell (StdRsh w) widths now state c = shows_rsh cell widths now state w c
cells_show cell (StdSlice i o) widths now state c = shows_slice cell widths now state i o c
cells_show cell (StdPad i o) widths now state c = shows_pad cell widths now state i o c
cells_show cell (FilMux w) widths now state c = shows_mux cell widths now state w c
cells_show cell (FilSlice w hi lo) widths now state c = shows_part cell widths now state w hi lo c
cells_show cell (FilConcat a b) widths now state c = shows_concat cell widths now state a b c
cells_show cell (StdReg w) widths now state c = shows_reg cell widths now w state c
cells_show cell (StdMemD1 w size idx) widths now state c = shows_d1 cell widths now state w size idx state c
cells_show cell (StdMemD2 w size0 size1 idx0 idx1) widths now state c = shows_d2 cell widths now state w size0 size1 idx0 idx1 state c
cells_show cell (StdMultPipe w) widths now state c = shows_mult_pipe cell widths now w state c
cells_show cell (FilDelay w) widths now state c = shows_delay cell widths now w state c
cells_show cell (FilFastMult w) widths now state c = shows_fast_mult cell widths now w state c
cells_show cell (FilSeqMult w) widths now state c = shows_seq_mult cell widths now w state c
