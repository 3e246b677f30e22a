-- The output of a register: what its transaction gave it, until the hold is over.
use Rattle.std.proofs.Common.{◌≡◌, ℕ, zero, suc, ◌+◌, ◌<◌, ◌≤◌, List, Bool, true, false, refl, sym, ap, ◌∙◌, inl, inr, arith}
use Rattle.std.proofs.lemmas.Bool.{cases_lt}
use Rattle.std.proofs.lemmas.Bool.Decides.{Decides-eqb}
use Rattle.std.specs.Prelude.{codes, slice_index, ◌==◌, if◌then◌else◌}
use Rattle.hw_prims.specs.Filament.{go_of, primitive_flow, timed_signature}
use Rattle.hw_prims.specs.Meaning.{output_values, next_state}
use Rattle.hw_prims.specs.State.{Register, out_of}
use Rattle.hw_prims.specs.Table.{inputs_of, outputs_of}
use Rattle.hw_prims.specs.Timed.{Transaction}
use Rattle.hw_prims.specs.declared.prim.Primitive.TheVariants.{StdReg}
use Rattle.hw_prims.proofs.TimedLemmas.{TimedRow, apart_or_one, args_given, args_of, starts_in, state_at}

-- the next value, by the test of write_en
written : (on : Bool) (value out : ℕ) → on ≡ true → out_of (if on then Register value 1 else Register out 0) ≡ value
written true value out is = refl
written false value out is = absurd (cc)

unwritten : (write_en value out : ℕ) → (write_en ≡ 1 → ⊥) → out_of (if write_en == 1 then Register value 1 else Register out 0) ≡ out
unwritten write_en value out none = by (write_en == 1) refl
  where
    by : (on : Bool) → (write_en == 1) ≡ on → out_of (if on then Register value 1 else Register out 0) ≡ out
    by true is = absurd (none ((Decides-eqb write_en 1).0 is))
    by false is = refl

module _ (w : ℕ) (c : TimedRow (StdReg w)) (event : 0 ≡ c.tx.event) where
  -- no other transaction starts until the hold is over
  none_starts : (n : ℕ) → n < c.r → c.tx.start < n → n < c.tx.start + c.tx.hold → c.trace n (c.at (codes "write_en")) ≡ 1 → ⊥
  unfolding go_of
  none_starts n before later held on =
      let other = (starts_in (StdReg w) c (codes "write_en") refl n before).0 on in
      let now : other.0.start ≡ n = other.3 in
      elim (apart_or_one (timed_signature (StdReg w)) c.txs c.legal c.tx other.0 c.has other.1 (sym event ∙ sym other.2)) [
        | inl one ↦ let same : c.tx.start ≡ other.0.start = ap (λ (t : Transaction). t.start) one in omega arith
        | inr (inl after) ↦ omega (arith, after)
        | inr (inr earlier) ↦ omega (arith, earlier)
      ]

  -- from the row after the start on, the value is the transaction's
  value_stays : (n : ℕ) → n ≤ c.r → c.tx.start + 1 ≤ n → n < c.tx.start + (1 + c.tx.hold) → out_of (state_at (StdReg w) c n) ≡ slice_index (args_of (StdReg w) c.tx) 0
  unfolding inputs_of next_state go_of
  value_stays zero le from to = absurd (omega (arith, from))
  value_stays (suc n) le from to =
      let value : ℕ = c.trace n (c.at (codes "in")) in
      let write_en : ℕ = c.trace n (c.at (codes "write_en")) in
      let out : ℕ = out_of (state_at (StdReg w) c n) in
      elim (cases_lt c.tx.start n) [
        | inl later ↦ unwritten write_en value out (none_starts n (omega arith) later (omega arith)) ∙ value_stays n (omega arith) (omega arith) (omega arith)
        | inr no_later ↦
            let now : c.tx.start ≡ n = omega (arith, no_later, from) in
            let on = (starts_in (StdReg w) c (codes "write_en") refl n (omega arith)).1 (c.tx, c.has, sym event, now) in
            written (write_en == 1) value out ((Decides-eqb write_en 1).1 on)
            ∙ ap (λ (t : ℕ). c.trace t (c.at (codes "in"))) (sym now)
            ∙ ap (λ (ins : List ℕ). slice_index ins 0) (args_given (StdReg w) c c.tx c.has event (omega arith))
      ]

  -- so the output is, in the rows of the hold
  pub register_follows : c.tx.start + 1 ≤ c.r → c.r < c.tx.start + (1 + c.tx.hold) → c.trace c.r (c.at (codes "out")) ≡ primitive_flow (StdReg w) (args_of (StdReg w) c.tx)
  unfolding outputs_of output_values
  register_follows from to = ap (λ (outs : List ℕ). slice_index outs 0) (c.cell c.r c.within) ∙ value_stays c.r (omega arith) from to
