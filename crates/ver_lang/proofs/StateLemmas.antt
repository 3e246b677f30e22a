-- The outputs of cells with a state, but for memories.
use Rattle.std.proofs.Common.{◌≡◌, ℕ, ◌^◌, ◌<◌, [], ◌∷◌, refl, ap, ap₂, ◌∙◌, lit<, arith}
use Rattle.std.proofs.Math.Nat.{zero-mod}
use Rattle.std.specs.Prelude.{codes, ◌==◌, if◌then◌else◌, option_map, Option, Some}
use Rattle.hw_bits.specs.Width.{low_bits}
use Rattle.hw_names.specs.Name.{Text, dotted}
use Rattle.hw_prims.specs.Laws.{IsStateOf}
use Rattle.hw_prims.specs.Meaning.{output_values, seq_mult_out}
use Rattle.hw_prims.specs.State.{State, Register, MultPipe, Delay, FastMult, SeqMult, done_of}
use Rattle.hw_prims.specs.Table.{inputs_of, outputs_of, pin}
use Rattle.hw_prims.specs.declared.phase.Phase.{Phase}
use Rattle.hw_prims.specs.declared.phase.Phase.TheVariants.{Idle, First, Second, Third}
use Rattle.hw_prims.specs.declared.prim.Primitive.TheVariants.{StdReg, StdMultPipe, FilDelay, FilFastMult, FilSeqMult}
use Rattle.ver_lang.specs.CellItems.{cell_items}
use Rattle.ver_lang.specs.CellLaws.{CellCycle, ShowsOutputs, phase_number}
use Rattle.ver_lang.specs.Size.{Widths}
use Rattle.ver_lang.specs.Value.{Cycle, bit, is_true}
use Rattle.ver_lang.proofs.GivenLemmas.{bit-lt, fits_given}

-- what is held is given
held_given : (o w held v : ℕ) → o ≡ w → held ≡ v → v < 2 ^ w → low_bits o held ≡ v
held_given o w held v is-o is-held fits = ap (low_bits o) is-held ∙ fits_given o w v is-o fits

one_is : (a x : ℕ) → a ≡ x → Some a ∷ [] ≡ Some x ∷ []
one_is a x is = ap (λ (n : ℕ). Some n ∷ []) is

two_are : (a b x y : ℕ) → a ≡ x → b ≡ y → Some a ∷ Some b ∷ [] ≡ Some x ∷ Some y ∷ []
two_are a b x y is other = ap₂ (λ (m n : ℕ). Some m ∷ Some n ∷ []) is other

-- what the multiplier shows in each phase
seq_given : (phase : Phase) (p held kept w : ℕ) → p ≡ phase_number phase → held ≡ kept → (if is_true (bit (p == 2)) then Some held else Some (low_bits w 0)) ≡ Some (seq_mult_out phase kept)
seq_given Second p held kept w is is-held = ap (λ (n : ℕ). if is_true (bit (n == 2)) then Some held else Some (low_bits w 0)) is ∙ ap (λ (n : ℕ). Some n) is-held
seq_given Idle p held kept w is is-held = ap (λ (n : ℕ). if is_true (bit (n == 2)) then Some held else Some (low_bits w 0)) is ∙ ap (λ (n : ℕ). Some n) (zero-mod (2 ^ w))
seq_given First p held kept w is is-held = ap (λ (n : ℕ). if is_true (bit (n == 2)) then Some held else Some (low_bits w 0)) is ∙ ap (λ (n : ℕ). Some n) (zero-mod (2 ^ w))
seq_given Third p held kept w is is-held = ap (λ (n : ℕ). if is_true (bit (n == 2)) then Some held else Some (low_bits w 0)) is ∙ ap (λ (n : ℕ). Some n) (zero-mod (2 ^ w))

seq_out_fits : (phase : Phase) (kept w : ℕ) → kept < 2 ^ w → seq_mult_out phase kept < 2 ^ w
seq_out_fits Second kept w fits = fits
seq_out_fits Idle kept w fits = omega arith
seq_out_fits First kept w fits = omega arith
seq_out_fits Third kept w fits = omega arith

-- done of the pipelined multiplier in each phase
pipe_done : (phase : Phase) (p kept out : ℕ) → p ≡ phase_number phase → bit (p == 3) ≡ done_of (MultPipe phase kept out)
pipe_done Third p kept out is = ap (λ (n : ℕ). bit (n == 3)) is
pipe_done Idle p kept out is = ap (λ (n : ℕ). bit (n == 3)) is
pipe_done First p kept out is = ap (λ (n : ℕ). bit (n == 3)) is
pipe_done Second p kept out is = ap (λ (n : ℕ). bit (n == 3)) is

module _ (cell : Text) (widths : Widths) (now : Cycle) where
  abbrev at : Text → ℕ
  at port = now.row (dotted cell port)

  abbrev wide : Text → ℕ
  wide port = widths (dotted cell port)

  pub shows_reg : (w : ℕ) (state : State) → CellCycle cell (StdReg w) widths now state → ShowsOutputs cell (StdReg w) widths now state
  unfolding cell_items inputs_of outputs_of output_values IsStateOf
  shows_reg w (Register out done) c =
      let out_wide : wide (codes "out") ≡ w = c.declared.pins (pin (codes "out") w) (2, lit< tt, refl) in
      let done_wide : wide (codes "done") ≡ 1 = c.declared.pins (pin (codes "done") 1) (3, lit< tt, refl) in
      record {
        driven = refl;
        given = two_are _ _ out done (held_given (wide (codes "out")) w (at (codes "$0")) out out_wide c.held.0 c.state_fits.0) (held_given (wide (codes "done")) 1 (at (codes "$1")) done done_wide c.held.1 c.state_fits.1);
      }
  shows_reg w state c = absurd c.state_fits

  pub shows_delay : (w : ℕ) (state : State) → CellCycle cell (FilDelay w) widths now state → ShowsOutputs cell (FilDelay w) widths now state
  unfolding cell_items inputs_of outputs_of output_values IsStateOf
  shows_delay w (Delay kept) c =
      let out_wide : wide (codes "out") ≡ w = c.declared.pins (pin (codes "out") w) (1, lit< tt, refl) in
      record { driven = refl; given = one_is _ kept (held_given (wide (codes "out")) w (at (codes "$0")) kept out_wide c.held c.state_fits) }
  shows_delay w state c = absurd c.state_fits

  pub shows_fast_mult : (w : ℕ) (state : State) → CellCycle cell (FilFastMult w) widths now state → ShowsOutputs cell (FilFastMult w) widths now state
  unfolding cell_items inputs_of outputs_of output_values IsStateOf
  shows_fast_mult w (FastMult first second) c =
      let out_wide : wide (codes "out") ≡ w = c.declared.pins (pin (codes "out") w) (2, lit< tt, refl) in
      record { driven = refl; given = one_is _ second (held_given (wide (codes "out")) w (at (codes "$1")) second out_wide c.held.1 c.state_fits.1) }
  shows_fast_mult w state c = absurd c.state_fits

  pub shows_seq_mult : (w : ℕ) (state : State) → CellCycle cell (FilSeqMult w) widths now state → ShowsOutputs cell (FilSeqMult w) widths now state
  unfolding cell_items inputs_of outputs_of output_values IsStateOf
  shows_seq_mult w (SeqMult phase kept) c =
      let out_wide : wide (codes "out") ≡ w = c.declared.pins (pin (codes "out") w) (3, lit< tt, refl) in
      let shown = seq_given phase (at (codes "$0")) (at (codes "$1")) kept w c.held.0 c.held.1 in
      let cut : low_bits (wide (codes "out")) (seq_mult_out phase kept) ≡ seq_mult_out phase kept = fits_given (wide (codes "out")) w (seq_mult_out phase kept) out_wide (seq_out_fits phase kept w c.state_fits) in
      record { driven = refl; given = ap (λ (g : Option ℕ). option_map (low_bits (wide (codes "out"))) g ∷ []) shown ∙ one_is _ (seq_mult_out phase kept) cut }
  shows_seq_mult w state c = absurd c.state_fits

  pub shows_mult_pipe : (w : ℕ) (state : State) → CellCycle cell (StdMultPipe w) widths now state → ShowsOutputs cell (StdMultPipe w) widths now state
  unfolding cell_items inputs_of outputs_of output_values IsStateOf
  shows_mult_pipe w (MultPipe phase kept out) c =
      let out_wide : wide (codes "out") ≡ w = c.declared.pins (pin (codes "out") w) (3, lit< tt, refl) in
      let done_wide : wide (codes "done") ≡ 1 = c.declared.pins (pin (codes "done") 1) (4, lit< tt, refl) in
      let done_is = fits_given (wide (codes "done")) 1 (bit (at (codes "$0") == 3)) done_wide (bit-lt (at (codes "$0") == 3)) ∙ pipe_done phase (at (codes "$0")) kept out c.held.0 in
      record {
        driven = refl;
        given = two_are _ _ out (done_of (MultPipe phase kept out)) (held_given (wide (codes "out")) w (at (codes "$2")) out out_wide c.held.2 c.state_fits.1) done_is;
      }
  shows_mult_pipe w state c = absurd c.state_fits
