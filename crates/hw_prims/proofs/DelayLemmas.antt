-- The output of a delay and of a fast multiplier.
use Rattle.std.proofs.Common.{◌≡◌, ℕ, suc, List, sym, ap, ◌∙◌, arith}
use Rattle.std.specs.Prelude.{codes, slice_index}
use Rattle.hw_bits.specs.Width.{product_bits}
use Rattle.hw_prims.specs.Filament.{primitive_flow}
use Rattle.hw_prims.specs.Meaning.{output_values, next_state}
use Rattle.hw_prims.specs.State.{kept_of, second_of}
use Rattle.hw_prims.specs.Table.{inputs_of, outputs_of}
use Rattle.hw_prims.specs.declared.prim.Primitive.{Primitive}
use Rattle.hw_prims.specs.declared.prim.Primitive.TheVariants.{FilDelay, FilFastMult}
use Rattle.hw_prims.proofs.TimedLemmas.{TimedRow, args_given, args_of, state_at}

-- a delay keeps what it was given a row before
pub delay_follows : (w : ℕ) (c : TimedRow (FilDelay w)) → 0 ≡ c.tx.event → suc c.tx.start ≡ c.r → c.trace c.r (c.at (codes "out")) ≡ primitive_flow (FilDelay w) (args_of (FilDelay w) c.tx)
unfolding inputs_of outputs_of output_values next_state
delay_follows w c event now =
    let prim : Primitive = FilDelay w in
    ap (λ (outs : List ℕ). slice_index outs 0) (c.cell c.r c.within)
    ∙ ap (λ (t : ℕ). kept_of (state_at prim c t)) (sym now)
    ∙ ap (λ (ins : List ℕ). slice_index ins 0) (args_given prim c c.tx c.has event (omega (arith, now)))

-- a fast multiplier keeps the product of what it was given two rows before
pub fast_mult_follows : (w : ℕ) (c : TimedRow (FilFastMult w)) → 0 ≡ c.tx.event → suc (suc c.tx.start) ≡ c.r → c.trace c.r (c.at (codes "out")) ≡ primitive_flow (FilFastMult w) (args_of (FilFastMult w) c.tx)
unfolding inputs_of outputs_of output_values next_state
fast_mult_follows w c event now =
    let prim : Primitive = FilFastMult w in
    ap (λ (outs : List ℕ). slice_index outs 0) (c.cell c.r c.within)
    ∙ ap (λ (t : ℕ). second_of (state_at prim c t)) (sym now)
    ∙ ap (λ (ins : List ℕ). product_bits w (slice_index ins 0) (slice_index ins 1)) (args_given prim c c.tx c.has event (omega (arith, now)))
