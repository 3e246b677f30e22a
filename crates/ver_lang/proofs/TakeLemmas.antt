-- The edges of cells with a state, but for memories.
use Rattle.std.proofs.Common.{◌≡◌, ℕ, zero, suc, ◌+◌, ◌*◌, ◌^◌, ◌<◌, ◌≤◌, max, List, [], ◌∷◌, refl, sym, ap, ap₂, subst, ◌∙◌, lit<, arith}
use Rattle.std.specs.Prelude.{codes, ◌==◌, ◌&&◌, ◌||◌, not, if◌then◌else◌, Option, Some}
use Rattle.hw_bits.specs.Width.{low_bits, product_bits}
use Rattle.hw_bits.proofs.WidthLemmas.{low_bits-of_lt}
use Rattle.hw_names.specs.Name.{Text, dotted}
use Rattle.hw_prims.specs.Laws.{IsStateOf}
use Rattle.hw_prims.specs.Meaning.{next_state, next_mult_pipe, next_seq_mult}
use Rattle.hw_prims.specs.State.{State, Register, MultPipe, FastMult, SeqMult}
use Rattle.hw_prims.specs.Table.{inputs_of}
use Rattle.hw_prims.specs.declared.phase.Phase.{Phase}
use Rattle.hw_prims.specs.declared.phase.Phase.TheVariants.{Idle, First, Second, Third}
use Rattle.hw_prims.specs.declared.prim.Primitive.TheVariants.{StdReg, StdMemD1, StdMemD2, StdMultPipe, FilDelay, FilFastMult, FilSeqMult}
use Rattle.ver_lang.specs.CellItems.{cell_items, zero_of}
use Rattle.ver_lang.specs.CellLaws.{CellCycle, CellsTakeNext, IsHeld, TakesNext, phase_number}
use Rattle.ver_lang.specs.Edge.{Update, Takes, one_after_other}
use Rattle.ver_lang.specs.Run.{AreUpdated}
use Rattle.ver_lang.specs.Size.{Widths}
use Rattle.ver_lang.specs.Tree.{Signal}
use Rattle.ver_lang.specs.Value.{Cycle, bit, chosen, is_true}
use Rattle.ver_lang.proofs.GivenLemmas.{fits_given, wrapped_given}
use Rattle.ver_lang.proofs.StoreLemmas.{takes_d1, takes_d2}
use Rattle.ver_lang.proofs.UpdateLemmas.{takes_other, takes_own}

module _ (cell : Text) (widths : Widths) (now : Cycle) where
  abbrev at : Text → ℕ
  at port = now.row (dotted cell port)

  abbrev wide : Text → ℕ
  wide port = widths (dotted cell port)

  -- a register of the cell's own
  abbrev own : Text → ℕ → Signal
  own name w = record { name = dotted cell name; width = w }

  -- what a register takes of a value that fits it
  taken : (name : Text) (w v : ℕ) → wide name ≡ w → v < 2 ^ w → low_bits (wide name) v ≡ v
  taken name w v is fits = fits_given (wide name) w v is fits

  pub takes_delay : (w : ℕ) (state : State) → CellCycle cell (FilDelay w) widths now state → TakesNext cell (FilDelay w) widths now state
  unfolding cell_items inputs_of next_state
  takes_delay w state c =
      let kept_wide : wide (codes "$0") ≡ w = c.declared.own (own (codes "$0") w) (0, lit< tt, refl) in
      let v : ℕ = low_bits (wide (codes "$0")) (at (codes "in")) in
      record {
        due = Takes (dotted cell (codes "$0")) v ∷ [];
        scheduled = refl;
        holds = λ next u.
            u.registers (own (codes "$0") w) (zero_of w) (0, lit< tt, refl)
            ∙ takes_own cell (codes "$0") v (at (codes "$0")) []
            ∙ taken (codes "$0") w (at (codes "in")) kept_wide c.inputs_fit.0;
      }

  pub takes_fast_mult : (w : ℕ) (state : State) → CellCycle cell (FilFastMult w) widths now state → TakesNext cell (FilFastMult w) widths now state
  unfolding cell_items inputs_of next_state IsStateOf
  takes_fast_mult w (FastMult first second) c =
      let first_wide : wide (codes "$0") ≡ w = c.declared.own (own (codes "$0") w) (0, lit< tt, refl) in
      let second_wide : wide (codes "$1") ≡ w = c.declared.own (own (codes "$1") w) (1, lit< tt, refl) in
      let context : ℕ = max (wide (codes "$0")) (max (wide (codes "left")) (wide (codes "right"))) in
      let product : ℕ = low_bits (wide (codes "$0")) (low_bits context (at (codes "left") * at (codes "right"))) in
      let shown : ℕ = low_bits (wide (codes "$1")) (at (codes "$0")) in
      let wider : w ≤ context = omega arith in
      record {
        due = Takes (dotted cell (codes "$1")) shown ∷ Takes (dotted cell (codes "$0")) product ∷ [];
        scheduled = refl;
        holds = λ next u. (
          u.registers (own (codes "$0") w) (zero_of w) (0, lit< tt, refl)
              ∙ takes_other cell (codes "$1") (codes "$0") shown (at (codes "$0")) (Takes (dotted cell (codes "$0")) product ∷ []) refl
              ∙ takes_own cell (codes "$0") product (at (codes "$0")) []
              ∙ wrapped_given (wide (codes "$0")) w context (at (codes "left") * at (codes "right")) first_wide wider,
          u.registers (own (codes "$1") w) (zero_of w) (1, lit< tt, refl)
              ∙ takes_own cell (codes "$1") shown (at (codes "$1")) (Takes (dotted cell (codes "$0")) product ∷ [])
              ∙ takes_other cell (codes "$0") (codes "$1") product shown [] refl
              ∙ ap (low_bits (wide (codes "$1"))) c.held.0
              ∙ taken (codes "$1") w first second_wide c.state_fits.0,
        );
      }
  takes_fast_mult w state c = absurd c.state_fits

  -- what a register schedules, by the value of write_en
  abbrev reg_due : ℕ → ℕ → ℕ → Option (List Update)
  reg_due done v on =
      one_after_other
      (one_after_other (Some (Takes (dotted cell (codes "$1")) done ∷ []))
      (one_after_other (chosen (Some on) (Some (Takes (dotted cell (codes "$0")) v ∷ [])) (Some [])) (Some [])))
      (Some [])

  pub takes_reg : (w : ℕ) (state : State) → CellCycle cell (StdReg w) widths now state → TakesNext cell (StdReg w) widths now state
  unfolding cell_items inputs_of next_state IsStateOf
  takes_reg w (Register out done) c = by (at (codes "write_en")) refl c.inputs_fit.1.0
    where
      by : (on : ℕ) → at (codes "write_en") ≡ on → on < 2 → TakesNext cell (StdReg w) widths now (Register out done)
      by zero is one_bit =
          let kept_wide : wide (codes "$0") ≡ w = c.declared.own (own (codes "$0") w) (0, lit< tt, refl) in
          let done_wide : wide (codes "$1") ≡ 1 = c.declared.own (own (codes "$1") 1) (1, lit< tt, refl) in
          let told : ℕ = low_bits (wide (codes "$1")) (at (codes "write_en")) in
          let v : ℕ = low_bits (wide (codes "$0")) (at (codes "in")) in
          record {
            due = Takes (dotted cell (codes "$1")) told ∷ [];
            scheduled = ap (reg_due told v) is;
            holds = λ next u. subst (λ (n : ℕ). IsHeld cell (if n == 1 then Register (at (codes "in")) 1 else Register out 0) next) (sym is) (
              u.registers (own (codes "$0") w) (zero_of w) (0, lit< tt, refl)
                  ∙ takes_other cell (codes "$1") (codes "$0") told (at (codes "$0")) [] refl
                  ∙ c.held.0,
              u.registers (own (codes "$1") 1) (zero_of 1) (1, lit< tt, refl)
                  ∙ takes_own cell (codes "$1") told (at (codes "$1")) []
                  ∙ ap (low_bits (wide (codes "$1"))) is
                  ∙ taken (codes "$1") 1 0 done_wide (lit< tt),
            );
          }
      by (suc zero) is one_bit =
          let kept_wide : wide (codes "$0") ≡ w = c.declared.own (own (codes "$0") w) (0, lit< tt, refl) in
          let done_wide : wide (codes "$1") ≡ 1 = c.declared.own (own (codes "$1") 1) (1, lit< tt, refl) in
          let told : ℕ = low_bits (wide (codes "$1")) (at (codes "write_en")) in
          let v : ℕ = low_bits (wide (codes "$0")) (at (codes "in")) in
          record {
            due = Takes (dotted cell (codes "$1")) told ∷ Takes (dotted cell (codes "$0")) v ∷ [];
            scheduled = ap (reg_due told v) is;
            holds = λ next u. subst (λ (n : ℕ). IsHeld cell (if n == 1 then Register (at (codes "in")) 1 else Register out 0) next) (sym is) (
              u.registers (own (codes "$0") w) (zero_of w) (0, lit< tt, refl)
                  ∙ takes_other cell (codes "$1") (codes "$0") told (at (codes "$0")) (Takes (dotted cell (codes "$0")) v ∷ []) refl
                  ∙ takes_own cell (codes "$0") v (at (codes "$0")) []
                  ∙ taken (codes "$0") w (at (codes "in")) kept_wide c.inputs_fit.0,
              u.registers (own (codes "$1") 1) (zero_of 1) (1, lit< tt, refl)
                  ∙ takes_own cell (codes "$1") told (at (codes "$1")) (Takes (dotted cell (codes "$0")) v ∷ [])
                  ∙ takes_other cell (codes "$0") (codes "$1") v told [] refl
                  ∙ ap (low_bits (wide (codes "$1"))) is
                  ∙ taken (codes "$1") 1 1 done_wide (lit< tt),
            );
          }
      by (suc (suc n)) is one_bit = absurd (omega (arith, one_bit))
  takes_reg w state c = absurd c.state_fits

  -- a phase that is taken
  abbrev phase_taken : ℕ → ℕ
  phase_taken n = low_bits (wide (codes "$0")) (low_bits 2 n)

  -- a product that $1 takes
  abbrev product_taken : ℕ
  product_taken = low_bits (wide (codes "$1")) (low_bits (max (wide (codes "$1")) (max (wide (codes "left")) (wide (codes "right")))) (at (codes "left") * at (codes "right")))

  -- what fil_seq_mult schedules, by its phase and go
  abbrev seq_due : ℕ → ℕ → Option (List Update)
  seq_due phase go =
      one_after_other
      (one_after_other
      (chosen (Some (bit (phase == 0)))
      (one_after_other
      (chosen (Some go)
      (one_after_other (Some (Takes (dotted cell (codes "$1")) product_taken ∷ []))
      (one_after_other (Some (Takes (dotted cell (codes "$0")) (phase_taken 1) ∷ [])) (Some [])))
      (Some []))
      (Some []))
      (chosen (Some (bit (phase == 1)))
      (Some (Takes (dotted cell (codes "$0")) (phase_taken 2) ∷ []))
      (Some (Takes (dotted cell (codes "$0")) (phase_taken 0) ∷ []))))
      (Some []))
      (Some [])

  -- a product that fits its register is the product of the width
  product_is : (w : ℕ) → wide (codes "$1") ≡ w → product_taken ≡ product_bits w (at (codes "left")) (at (codes "right"))
  product_is w is =
      let wider : w ≤ max (wide (codes "$1")) (max (wide (codes "left")) (wide (codes "right"))) = omega arith in
      wrapped_given (wide (codes "$1")) w (max (wide (codes "$1")) (max (wide (codes "left")) (wide (codes "right")))) (at (codes "left") * at (codes "right")) is wider

  -- an edge at which only the phase is taken, and $1 stays
  seq_moves : (w kept : ℕ) (from to : Phase) (n : ℕ) → n ≡ phase_number to → n < 4 → CellCycle cell (FilSeqMult w) widths now (SeqMult from kept) →
      (next : Cycle) → AreUpdated (cell_items cell (FilSeqMult w)) (Takes (dotted cell (codes "$0")) (phase_taken n) ∷ []) now next → IsHeld cell (SeqMult to kept) next
  unfolding cell_items
  seq_moves w kept from to n is small c next u =
      let phase_wide : wide (codes "$0") ≡ 2 = c.declared.own (own (codes "$0") 2) (0, lit< tt, refl) in (
        u.registers (own (codes "$0") 2) (zero_of 2) (0, lit< tt, refl)
            ∙ takes_own cell (codes "$0") (phase_taken n) (at (codes "$0")) []
            ∙ ap (low_bits (wide (codes "$0"))) (low_bits-of_lt 2 n small) ∙ fits_given (wide (codes "$0")) 2 n phase_wide small ∙ is,
        u.registers (own (codes "$1") w) (zero_of w) (1, lit< tt, refl)
            ∙ takes_other cell (codes "$0") (codes "$1") (phase_taken n) (at (codes "$1")) [] refl
            ∙ c.held.1,
      )

  pub takes_seq_mult : (w : ℕ) (state : State) → CellCycle cell (FilSeqMult w) widths now state → TakesNext cell (FilSeqMult w) widths now state
  unfolding cell_items inputs_of next_state IsStateOf
  takes_seq_mult w (SeqMult First kept) c =
      record { due = Takes (dotted cell (codes "$0")) (phase_taken 2) ∷ []; scheduled = ap (λ (n : ℕ). seq_due n (at (codes "go"))) c.held.0; holds = seq_moves w kept First Second 2 refl (lit< tt) c }
  takes_seq_mult w (SeqMult Second kept) c =
      record { due = Takes (dotted cell (codes "$0")) (phase_taken 0) ∷ []; scheduled = ap (λ (n : ℕ). seq_due n (at (codes "go"))) c.held.0; holds = seq_moves w kept Second Idle 0 refl (lit< tt) c }
  takes_seq_mult w (SeqMult Third kept) c =
      record { due = Takes (dotted cell (codes "$0")) (phase_taken 0) ∷ []; scheduled = ap (λ (n : ℕ). seq_due n (at (codes "go"))) c.held.0; holds = seq_moves w kept Third Idle 0 refl (lit< tt) c }
  takes_seq_mult w (SeqMult Idle kept) c = by (at (codes "go")) refl c.inputs_fit.0
    where
      by : (go : ℕ) → at (codes "go") ≡ go → go < 2 → TakesNext cell (FilSeqMult w) widths now (SeqMult Idle kept)
      by zero is one_bit =
          record {
            due = [];
            scheduled = ap₂ seq_due c.held.0 is;
            holds = λ next u. subst (λ (n : ℕ). IsHeld cell (next_seq_mult Idle kept (product_bits w (at (codes "left")) (at (codes "right"))) (n == 1)) next) (sym is) (
              u.registers (own (codes "$0") 2) (zero_of 2) (0, lit< tt, refl) ∙ c.held.0,
              u.registers (own (codes "$1") w) (zero_of w) (1, lit< tt, refl) ∙ c.held.1,
            );
          }
      by (suc zero) is one_bit =
          let phase_wide : wide (codes "$0") ≡ 2 = c.declared.own (own (codes "$0") 2) (0, lit< tt, refl) in
          let kept_wide : wide (codes "$1") ≡ w = c.declared.own (own (codes "$1") w) (1, lit< tt, refl) in
          record {
            due = Takes (dotted cell (codes "$1")) product_taken ∷ Takes (dotted cell (codes "$0")) (phase_taken 1) ∷ [];
            scheduled = ap₂ seq_due c.held.0 is;
            holds = λ next u. subst (λ (n : ℕ). IsHeld cell (next_seq_mult Idle kept (product_bits w (at (codes "left")) (at (codes "right"))) (n == 1)) next) (sym is) (
              u.registers (own (codes "$0") 2) (zero_of 2) (0, lit< tt, refl)
                  ∙ takes_other cell (codes "$1") (codes "$0") product_taken (at (codes "$0")) (Takes (dotted cell (codes "$0")) (phase_taken 1) ∷ []) refl
                  ∙ takes_own cell (codes "$0") (phase_taken 1) (at (codes "$0")) []
                  ∙ fits_given (wide (codes "$0")) 2 1 phase_wide (lit< tt),
              u.registers (own (codes "$1") w) (zero_of w) (1, lit< tt, refl)
                  ∙ takes_own cell (codes "$1") product_taken (at (codes "$1")) (Takes (dotted cell (codes "$0")) (phase_taken 1) ∷ [])
                  ∙ takes_other cell (codes "$0") (codes "$1") (phase_taken 1) product_taken [] refl
                  ∙ product_is w kept_wide,
            );
          }
      by (suc (suc n)) is one_bit = absurd (omega (arith, one_bit))
  takes_seq_mult w state c = absurd c.state_fits

  -- the phase after this one
  abbrev phase_after : ℕ → ℕ
  phase_after n = low_bits (wide (codes "$0")) (low_bits (max (wide (codes "$0")) (max (wide (codes "$0")) 2)) (n + low_bits 2 1))

  -- what $2 takes
  abbrev shown_taken : ℕ
  shown_taken = low_bits (wide (codes "$2")) (at (codes "$1"))

  -- what std_mult_pipe schedules, by its phase and go
  abbrev pipe_due : ℕ → ℕ → Option (List Update)
  pipe_due phase go =
      one_after_other
      (one_after_other
      (chosen (Some (bit (is_true (bit (phase == 3)) || is_true (bit (not (is_true go))))))
      (Some (Takes (dotted cell (codes "$0")) (phase_taken 0) ∷ []))
      (Some (Takes (dotted cell (codes "$0")) (phase_after phase) ∷ [])))
      (one_after_other
      (chosen (Some (bit (is_true (bit (phase == 0)) && is_true go))) (Some (Takes (dotted cell (codes "$1")) product_taken ∷ [])) (Some []))
      (one_after_other
      (chosen (Some (bit (is_true (bit (phase == 2)) && is_true go))) (Some (Takes (dotted cell (codes "$2")) shown_taken ∷ [])) (Some []))
      (Some []))))
      (Some [])

  phase_after_is : (n : ℕ) → wide (codes "$0") ≡ 2 → n < 3 → phase_after n ≡ n + 1
  phase_after_is n is small =
      let context : ℕ = max (wide (codes "$0")) (max (wide (codes "$0")) 2) in
      let wider : 2 ≤ context = omega arith in
      let fits : n + 1 < 2 ^ 2 = omega arith in
      wrapped_given (wide (codes "$0")) 2 context (n + 1) is wider ∙ low_bits-of_lt 2 (n + 1) fits

  -- an edge at which only the phase is taken
  pipe_moves : (w kept out : ℕ) (from to : Phase) (v : ℕ) → v ≡ phase_number to → CellCycle cell (StdMultPipe w) widths now (MultPipe from kept out) →
      (next : Cycle) → AreUpdated (cell_items cell (StdMultPipe w)) (Takes (dotted cell (codes "$0")) v ∷ []) now next → IsHeld cell (MultPipe to kept out) next
  unfolding cell_items
  pipe_moves w kept out from to v is c next u = (
    u.registers (own (codes "$0") 2) (zero_of 2) (0, lit< tt, refl) ∙ takes_own cell (codes "$0") v (at (codes "$0")) [] ∙ is,
    u.registers (own (codes "$1") w) (zero_of w) (1, lit< tt, refl) ∙ takes_other cell (codes "$0") (codes "$1") v (at (codes "$1")) [] refl ∙ c.held.1,
    u.registers (own (codes "$2") w) (zero_of w) (2, lit< tt, refl) ∙ takes_other cell (codes "$0") (codes "$2") v (at (codes "$2")) [] refl ∙ c.held.2,
  )

  module _ (w kept out : ℕ) where
    abbrev Next : Phase → Type 0
    Next phase = TakesNext cell (StdMultPipe w) widths now (MultPipe phase kept out)

    abbrev Now : Phase → Type 0
    Now phase = CellCycle cell (StdMultPipe w) widths now (MultPipe phase kept out)

    abbrev Held : Phase → Cycle → ℕ → Type 0
    Held phase next go = IsHeld cell (next_mult_pipe phase kept out (product_bits w (at (codes "left")) (at (codes "right"))) (go == 1)) next

    phase_wide : (phase : Phase) → Now phase → wide (codes "$0") ≡ 2
    unfolding cell_items
    phase_wide phase c = c.declared.own (own (codes "$0") 2) (0, lit< tt, refl)

    -- to phase 0
    gives_up : (phase : Phase) (c : Now phase) → pipe_due (at (codes "$0")) (at (codes "go")) ≡ Some (Takes (dotted cell (codes "$0")) (phase_taken 0) ∷ []) →
        ((next : Cycle) → IsHeld cell (MultPipe Idle kept out) next → Held phase next (at (codes "go"))) → Next phase
    unfolding cell_items inputs_of next_state
    gives_up phase c due leads = record {
      due = Takes (dotted cell (codes "$0")) (phase_taken 0) ∷ [];
      scheduled = due;
      holds = λ next u. leads next (pipe_moves w kept out phase Idle (phase_taken 0) (fits_given (wide (codes "$0")) 2 0 (phase_wide phase c) (lit< tt)) c next u);
    }

    without_go : (phase : Phase) → Now phase → at (codes "go") ≡ 0 → Next phase
    without_go Idle c is = gives_up Idle c (ap₂ pipe_due c.held.0 is) (λ next held. subst (Held Idle next) (sym is) held)
    without_go First c is = gives_up First c (ap₂ pipe_due c.held.0 is) (λ next held. subst (Held First next) (sym is) held)
    without_go Second c is = gives_up Second c (ap₂ pipe_due c.held.0 is) (λ next held. subst (Held Second next) (sym is) held)
    without_go Third c is = gives_up Third c (ap₂ pipe_due c.held.0 is) (λ next held. subst (Held Third next) (sym is) held)

    with_go : (phase : Phase) → Now phase → at (codes "go") ≡ 1 → Next phase
    unfolding cell_items inputs_of next_state IsStateOf
    with_go Third c is = gives_up Third c (ap₂ pipe_due c.held.0 is) (λ next held. subst (Held Third next) (sym is) held)
    with_go First c is = record {
      due = Takes (dotted cell (codes "$0")) (phase_after 1) ∷ [];
      scheduled = ap₂ pipe_due c.held.0 is;
      holds = λ next u. subst (Held First next) (sym is) (pipe_moves w kept out First Second (phase_after 1) (phase_after_is 1 (phase_wide First c) (lit< tt)) c next u);
    }
    with_go Idle c is =
        let kept_wide : wide (codes "$1") ≡ w = c.declared.own (own (codes "$1") w) (1, lit< tt, refl) in
        let more : List Update = Takes (dotted cell (codes "$1")) product_taken ∷ [] in
        record {
          due = Takes (dotted cell (codes "$0")) (phase_after 0) ∷ more;
          scheduled = ap₂ pipe_due c.held.0 is;
          holds = λ next u. subst (Held Idle next) (sym is) (
            u.registers (own (codes "$0") 2) (zero_of 2) (0, lit< tt, refl)
                ∙ takes_own cell (codes "$0") (phase_after 0) (at (codes "$0")) more
                ∙ takes_other cell (codes "$1") (codes "$0") product_taken (phase_after 0) [] refl
                ∙ phase_after_is 0 (phase_wide Idle c) (lit< tt),
            u.registers (own (codes "$1") w) (zero_of w) (1, lit< tt, refl)
                ∙ takes_other cell (codes "$0") (codes "$1") (phase_after 0) (at (codes "$1")) more refl
                ∙ takes_own cell (codes "$1") product_taken (at (codes "$1")) []
                ∙ product_is w kept_wide,
            u.registers (own (codes "$2") w) (zero_of w) (2, lit< tt, refl)
                ∙ takes_other cell (codes "$0") (codes "$2") (phase_after 0) (at (codes "$2")) more refl
                ∙ takes_other cell (codes "$1") (codes "$2") product_taken (at (codes "$2")) [] refl
                ∙ c.held.2,
          );
        }
    with_go Second c is =
        let out_wide : wide (codes "$2") ≡ w = c.declared.own (own (codes "$2") w) (2, lit< tt, refl) in
        let more : List Update = Takes (dotted cell (codes "$2")) shown_taken ∷ [] in
        record {
          due = Takes (dotted cell (codes "$0")) (phase_after 2) ∷ more;
          scheduled = ap₂ pipe_due c.held.0 is;
          holds = λ next u. subst (Held Second next) (sym is) (
            u.registers (own (codes "$0") 2) (zero_of 2) (0, lit< tt, refl)
                ∙ takes_own cell (codes "$0") (phase_after 2) (at (codes "$0")) more
                ∙ takes_other cell (codes "$2") (codes "$0") shown_taken (phase_after 2) [] refl
                ∙ phase_after_is 2 (phase_wide Second c) (lit< tt),
            u.registers (own (codes "$1") w) (zero_of w) (1, lit< tt, refl)
                ∙ takes_other cell (codes "$0") (codes "$1") (phase_after 2) (at (codes "$1")) more refl
                ∙ takes_other cell (codes "$2") (codes "$1") shown_taken (at (codes "$1")) [] refl
                ∙ c.held.1,
            u.registers (own (codes "$2") w) (zero_of w) (2, lit< tt, refl)
                ∙ takes_other cell (codes "$0") (codes "$2") (phase_after 2) (at (codes "$2")) more refl
                ∙ takes_own cell (codes "$2") shown_taken (at (codes "$2")) []
                ∙ ap (low_bits (wide (codes "$2"))) c.held.1
                ∙ taken (codes "$2") w kept out_wide c.state_fits.0,
          );
        }

    by_go : (phase : Phase) → Now phase → (go : ℕ) → at (codes "go") ≡ go → go < 2 → Next phase
    by_go phase c zero is one_bit = without_go phase c is
    by_go phase c (suc zero) is one_bit = with_go phase c is
    by_go phase c (suc (suc n)) is one_bit = absurd (omega (arith, one_bit))

  pub takes_mult_pipe : (w : ℕ) (state : State) → CellCycle cell (StdMultPipe w) widths now state → TakesNext cell (StdMultPipe w) widths now state
  unfolding inputs_of IsStateOf
  takes_mult_pipe w (MultPipe phase kept out) c = by_go w kept out phase c (at (codes "go")) refl c.inputs_fit.0
  takes_mult_pipe w state c = absurd c.state_fits

-- a cell without a state has no edge
pub cells_take : CellsTakeNext
unfolding cell_items next_state
cells_take cell (StdReg w) widths now state c = takes_reg cell widths now w state c
cells_take cell (StdMemD1 w size idx) widths now state c = takes_d1 cell widths now w size idx state c
cells_take cell (StdMemD2 w size0 size1 idx0 idx1) widths now state c = takes_d2 cell widths now w size0 size1 idx0 idx1 state c
cells_take cell (StdMultPipe w) widths now state c = takes_mult_pipe cell widths now w state c
cells_take cell (FilDelay w) widths now state c = takes_delay cell widths now w state c
cells_take cell (FilFastMult w) widths now state c = takes_fast_mult cell widths now w state c
cells_take cell (FilSeqMult w) widths now state c = takes_seq_mult cell widths now w state c
cells_take cell prim widths now state c = record { due = []; scheduled = refl; holds = λ next u. tt }
