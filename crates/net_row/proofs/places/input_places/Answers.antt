use Rattle.std.proofs.Common.{◌≡◌, ◌≢◌, ◌+◌, ◌<◌, length, take, sym, ◌∙◌, arith, refl, length-take, length-set, get_or-set_other, get_or-set_same, below_more}
use Rattle.std.proofs.lemmas.List.{get_or-take}
use Rattle.hw_prims.specs.Table.{inputs_of}
use Rattle.net_sim.proofs.PortLemmas.{part_is}
use Rattle.net_row.proofs.FlatKindLemmas.{few_inputs}
use Rattle.net_row.proofs.places.input_places.Goals as goal

pub bounds-places-number : goal.bounds-places-number
bounds-places-number c = omega (arith, few_inputs c.args.cell.prim)

pub loop-number-preserved : goal.loop-number-preserved
loop-number-preserved c =
    let places = c.loop-number.places in
    let i = c.loop-number.number in
    let size : length places ≡ 4 = c.loop-number.invariant.size in
    let lt : i < length places = omega (arith, size, few_inputs c.args.cell.prim) in
    record {
      size = length-set places i _ ∙ size;
      first = below_more _ _
          (λ k h. let ne : k ≢ i = omega (arith, h) in rw get_or-set_other (c.loop-number.invariant.first k h))
          (rw get_or-set_same refl);
    }

pub returns : goal.returns
returns c =
    let count = length (inputs_of c.args.cell.prim) in
    let places = c.loop-number.places in
    let full : length places ≡ 4 = c.loop-number.invariant.size in
    let size : length (take count places) ≡ count = omega (arith, full, length-take count places, few_inputs c.args.cell.prim) in
    sym (part_is c.args.ports.now (take count places) c.args.cell.first (c.args.cell.first + count) (omega (arith, size)) c.requires (λ i lt.
    let below : i < count = omega (arith, lt, size) in
    sym (get_or-take count places i 0 below ∙ c.loop-number.invariant.first i (omega (arith, below)))))
