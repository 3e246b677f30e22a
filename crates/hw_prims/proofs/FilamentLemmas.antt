-- The primitives are timed.
use Rattle.std.proofs.Common.{◌≡◌, ℕ, List, true, refl, ap, ◌∙◌, arith}
use Rattle.std.proofs.lemmas.Bool.{false≢true}
use Rattle.std.specs.Prelude.{codes, map, slice_index, Contains}
use Rattle.hw_prims.specs.Filament.{PrimitivesAreTimed, PrimitivesAreTimedThrough, data_inputs, data_outputs, given, is_timed, latency_of, needed, primitive_flow}
use Rattle.hw_prims.specs.Meaning.{is_through, output_values}
use Rattle.hw_prims.specs.Memory.{keeps_words}
use Rattle.hw_prims.specs.State.{Stateless}
use Rattle.hw_prims.specs.Table.{inputs_of, outputs_of, pin}
use Rattle.hw_prims.specs.Timed.{Covers, TimedPort}
use Rattle.hw_prims.specs.declared.prim.Primitive.{Primitive}
use Rattle.hw_prims.specs.declared.prim.Primitive.TheVariants.{StdReg, StdMemD1, StdMemD2, StdMultPipe, FilDelay, FilFastMult, FilSeqMult}
use Rattle.hw_prims.proofs.DelayLemmas.{delay_follows, fast_mult_follows}
use Rattle.hw_prims.proofs.RegisterLemmas.{register_follows}
use Rattle.hw_prims.proofs.SeqMultLemmas.{seq_mult_follows}
use Rattle.hw_prims.proofs.TimedLemmas.{TimedRow, of_only, values_given, args_of}

-- in its rows an output has the value of the flow, where the inputs on which it depends have the transaction's
abbrev Follows : (prim : Primitive) → TimedRow prim → TimedPort → Type 0
Follows prim c o =
    Covers o c.tx c.r →
    ((p : TimedPort) → Contains (map needed (data_inputs prim)) p → is_through prim p.name o.name ≡ true → Covers p c.tx c.r → c.trace c.r (c.at p.name) ≡ c.tx.values p.name) →
    c.trace c.r (c.at o.name) ≡ primitive_flow prim (args_of prim c.tx)

-- the output of each primitive does: of those that keep nothing on the inputs of the row itself, of the others on those of the rows before
follows : (prim : Primitive) → is_timed prim ≡ true → (c : TimedRow prim) (o : TimedPort) → Contains (map (given prim) (data_outputs prim)) o → Follows prim c o
unfolding is_timed keeps_words inputs_of outputs_of output_values is_through given latency_of
follows (StdMemD1 w size idx) known c o has = absurd (false≢true known)
follows (StdMemD2 w size0 size1 idx0 idx1) known c o has = absurd (false≢true known)
follows (StdMultPipe w) known c o has = absurd (false≢true known)
follows (StdReg w) known c o has =
    of_only (Follows (StdReg w) c) (given (StdReg w) (pin (codes "out") w)) o has (λ covers same. register_follows w c covers.0 covers.1 covers.2)
follows (FilDelay w) known c o has =
    of_only (Follows (FilDelay w) c) (given (FilDelay w) (pin (codes "out") w)) o has (λ covers same. delay_follows w c covers.0 (omega (arith, covers.1, covers.2)))
follows (FilFastMult w) known c o has =
    of_only (Follows (FilFastMult w) c) (given (FilFastMult w) (pin (codes "out") w)) o has (λ covers same. fast_mult_follows w c covers.0 (omega (arith, covers.1, covers.2)))
follows (FilSeqMult w) known c o has =
    of_only (Follows (FilSeqMult w) c) (given (FilSeqMult w) (pin (codes "out") w)) o has (λ covers same. seq_mult_follows w c (omega (arith, covers.1, covers.2)))
follows prim known c o has =
    of_only (Follows prim c) _ o has (λ covers same.
    ap (λ (outs : List ℕ). slice_index outs 0) (c.cell c.r c.within)
    ∙ ap (λ (ins : List ℕ). slice_index (output_values prim Stateless ins) 0)
    (values_given (data_inputs prim) c.at (c.trace c.r) c.tx c.r covers.0 (omega (arith, covers.1, covers.2)) (λ p in_ins at_p. same p in_ins refl at_p)))

pub timed_through : PrimitivesAreTimedThrough
timed_through prim known at height trace cell txs legal r within carried tx has o in_outs =
    follows prim known
    (record { at = at; height = height; trace = trace; cell = cell; txs = txs; legal = legal; r = r; within = within; carried = carried; tx = tx; has = has })
    o in_outs

-- the inputs on which an output depends are among all inputs
pub timed : PrimitivesAreTimed
timed prim known at height trace cell txs legal r within carried starts tx has now o in_outs covers =
    timed_through prim known at height trace cell txs legal r within carried tx has o in_outs covers (λ p in_ins through at_p. now p in_ins at_p)
