-- The output of a sequential multiplier, whose phases keep step with its transactions.
use Rattle.std.proofs.Common.{◌≡◌, ◌⊎◌, ℕ, zero, suc, ◌+◌, ◌<◌, ◌≤◌, List, Bool, true, false, refl, sym, ap, ap₂, ◌∙◌, inl, inr, arith}
use Rattle.std.proofs.lemmas.Bool.{cases_lt}
use Rattle.std.proofs.lemmas.Bool.Decides.{eqb_tells}
use Rattle.std.specs.Prelude.{codes, slice_index, ◌==◌, Contains}
use Rattle.hw_bits.specs.Width.{product_bits}
use Rattle.hw_prims.specs.Filament.{delay_of, go_of, primitive_flow, timed_signature}
use Rattle.hw_prims.specs.Meaning.{opening_state, output_values, next_state, next_seq_mult, seq_mult_out}
use Rattle.hw_prims.specs.State.{State, SeqMult, phase_of, kept_of}
use Rattle.hw_prims.specs.Table.{inputs_of, outputs_of}
use Rattle.hw_prims.specs.Timed.{Transaction}
use Rattle.hw_prims.specs.declared.phase.Phase.{Phase}
use Rattle.hw_prims.specs.declared.phase.Phase.TheVariants.{Idle, First, Second}
use Rattle.hw_prims.specs.declared.prim.Primitive.TheVariants.{FilSeqMult}
use Rattle.hw_prims.proofs.TimedLemmas.{TimedRow, apart_or_one, args_given, args_of, held_for, starts_in, state_at}

module _ (w : ℕ) (c : TimedRow (FilSeqMult w)) where
  abbrev state : ℕ → State
  state n = state_at (FilSeqMult w) c n

  abbrev product : Transaction → ℕ
  product tx = primitive_flow (FilSeqMult w) (args_of (FilSeqMult w) tx)

  -- a start in row n, and the product of the operands there
  abbrev go_in : ℕ → Bool
  go_in n = c.trace n (c.at (codes "go")) == 1

  abbrev product_in : ℕ → ℕ
  product_in n = product_bits w (c.trace n (c.at (codes "left"))) (c.trace n (c.at (codes "right")))

  -- before row n nothing is under way
  record IsIdle (n : ℕ) : Type 0 where
    phase : phase_of (state n) ≡ Idle
    over : (tx : Transaction) → Contains c.txs tx → tx.start < n → tx.start + 3 ≤ n

  -- or the product of a transaction is, so many rows after its start
  record IsBusy (n : ℕ) : Type 0 where
    tx : Transaction
    has : Contains c.txs tx
    kept : kept_of (state n) ≡ product tx
    step : ((phase_of (state n) ≡ First) × (tx.start + 1 ≡ n)) ⊎ ((phase_of (state n) ≡ Second) × (tx.start + 2 ≡ n))

  -- each holds the multiplier for three rows
  held : (tx : Transaction) → Contains c.txs tx → (tx.event ≡ 0) × (tx.hold ≡ 3)
  unfolding delay_of
  held tx has = held_for (FilSeqMult w) c.txs 3 c.legal refl tx has

  -- two transactions are one, or three rows apart
  far : (a b : Transaction) → Contains c.txs a → Contains c.txs b → (a ≡ b) ⊎ ((a.start + 3 ≤ b.start) ⊎ (b.start + 3 ≤ a.start))
  far a b has_a has_b =
      let at_a = held a has_a in
      let at_b = held b has_b in
      elim (apart_or_one (timed_signature (FilSeqMult w)) c.txs c.legal a b has_a has_b (at_a.0 ∙ sym at_b.0)) [
        | inl one ↦ inl one
        | inr (inl later) ↦ inr (inl (omega (arith, at_a.1, later)))
        | inr (inr earlier) ↦ inr (inr (omega (arith, at_b.1, earlier)))
      ]

  -- in a row a transaction starts, or go isn't 1
  starts_or_none : (n : ℕ) → n < c.r →
      ((tx : Transaction) × Contains c.txs tx × (tx.start ≡ n) × (go_in n ≡ true)) ⊎
      ((go_in n ≡ false) × ((tx : Transaction) → Contains c.txs tx → tx.start ≡ n → ⊥))
  unfolding go_of
  starts_or_none n before =
      let starts = starts_in (FilSeqMult w) c (codes "go") refl n before in
      elim (eqb_tells (c.trace n (c.at (codes "go"))) 1) [
        | inl (on, is) ↦ let s = starts.0 is in inl (s.0, s.1, s.3, on)
        | inr (off, is_not) ↦ inr (off, λ tx has now. is_not (starts.1 (tx, has, (held tx has).0, now)))
      ]

  -- a transaction that starts while nothing is under way is taken
  takes : (n : ℕ) → n < c.r → IsIdle n → (tx : Transaction) → Contains c.txs tx → tx.start ≡ n → go_in n ≡ true → IsBusy (suc n)
  unfolding inputs_of next_state
  takes n before idle tx has now on =
      let next : state (suc n) ≡ SeqMult First (product_in n) =
      ap₂ (λ (phase : Phase) (go : Bool). next_seq_mult phase (kept_of (state n)) (product_in n) go) idle.phase on in
      record {
        tx = tx;
        has = has;
        kept =
            ap kept_of next
            ∙ ap product_in (sym now)
            ∙ ap (λ (ins : List ℕ). product_bits w (slice_index ins 0) (slice_index ins 1)) (args_given (FilSeqMult w) c tx has (sym (held tx has).0) (omega (arith, now, before)));
        step = inl (ap phase_of next, omega (arith, now));
      }

  -- where none starts, nothing is under way a row later
  rests : (n : ℕ) → IsIdle n → go_in n ≡ false → ((tx : Transaction) → Contains c.txs tx → tx.start ≡ n → ⊥) → IsIdle (suc n)
  unfolding inputs_of next_state
  rests n idle off none =
      record {
        phase = ap phase_of (ap₂ (λ (phase : Phase) (go : Bool). next_seq_mult phase (kept_of (state n)) (product_in n) go) idle.phase off);
        over = λ tx has before. elim (cases_lt tx.start n) [
          | inl earlier ↦ omega (arith, idle.over tx has earlier)
          | inr not_earlier ↦ absurd (none tx has (omega (arith, not_earlier, before)))
        ];
      }

  -- what is under way goes on for a second row, and is then over
  goes_on : (n : ℕ) → IsBusy n → IsIdle (suc n) ⊎ IsBusy (suc n)
  unfolding inputs_of next_state
  goes_on n busy =
      let next = λ (phase : Phase). next_seq_mult phase (kept_of (state n)) (product_in n) (go_in n) in
      elim busy.step [
        | inl (first, now) ↦
            inr (record {
              tx = busy.tx;
              has = busy.has;
              kept = ap (λ (phase : Phase). kept_of (next phase)) first ∙ busy.kept;
              step = inr (ap (λ (phase : Phase). phase_of (next phase)) first, omega (arith, now));
            })
        | inr (second, now) ↦
            inl (record {
              phase = ap (λ (phase : Phase). phase_of (next phase)) second;
              over = λ tx has before. elim (far busy.tx tx busy.has has) [
                | inl one ↦ let same : busy.tx.start ≡ tx.start = ap (λ (t : Transaction). t.start) one in omega (arith, same, now)
                | inr (inl later) ↦ absurd (omega (arith, later, now, before))
                | inr (inr earlier) ↦ omega (arith, earlier, now)
              ];
            })
      ]

  -- before each row either nothing is under way or one product is
  keeps_step : (n : ℕ) → n ≤ c.r → IsIdle n ⊎ IsBusy n
  unfolding opening_state
  keeps_step zero le = inl (record { phase = refl; over = λ tx has before. absurd (omega (arith, before)) })
  keeps_step (suc n) le =
      elim (keeps_step n (omega (arith, le))) [
        | inl idle ↦ elim (starts_or_none n (omega (arith, le))) [
          | inl (tx, has, now, on) ↦ inr (takes n (omega (arith, le)) idle tx has now on)
          | inr (off, none) ↦ inl (rests n idle off none)
        ]
        | inr busy ↦ goes_on n busy
      ]

  -- in the second row after its start a transaction is the one under way
  out_of_busy : c.tx.start + 2 ≡ c.r → IsBusy c.r → seq_mult_out (phase_of (state c.r)) (kept_of (state c.r)) ≡ product c.tx
  out_of_busy now busy =
      elim (far busy.tx c.tx busy.has c.has) [
        | inl one ↦
            let same : busy.tx.start ≡ c.tx.start = ap (λ (t : Transaction). t.start) one in
            elim busy.step [
              | inl (first, first_row) ↦ absurd (omega (arith, same, now, first_row))
              | inr (second, second_row) ↦ ap (λ (phase : Phase). seq_mult_out phase (kept_of (state c.r))) second ∙ busy.kept ∙ ap product one
            ]
        | inr (inl later) ↦ absurd (elim busy.step [ inl step ↦ omega (arith, later, now, step.1) | inr step ↦ omega (arith, later, now, step.1) ])
        | inr (inr earlier) ↦ absurd (elim busy.step [ inl step ↦ omega (arith, earlier, now, step.1) | inr step ↦ omega (arith, earlier, now, step.1) ])
      ]

  -- the output in the second row after a start is the transaction's product
  pub seq_mult_follows : c.tx.start + 2 ≡ c.r → c.trace c.r (c.at (codes "out")) ≡ product c.tx
  unfolding outputs_of output_values
  seq_mult_follows now =
      ap (λ (outs : List ℕ). slice_index outs 0) (c.cell c.r c.within)
      ∙ elim (keeps_step c.r (omega arith)) [
        | inl idle ↦ let over = idle.over c.tx c.has (omega (arith, now)) in absurd (omega (arith, over, now))
        | inr busy ↦ out_of_busy now busy
      ]
