use Rattle.std.proofs.Common.{◌≡◌, Some, arith, get_or, slice_get}
use Rattle.std.proofs.lemmas.Bool.Decides.{nat_tests}
use Rattle.std.proofs.lemmas.Nat.Bits.{shr_and_one}
use Rattle.std.proofs.lemmas.Option.{slice_get-get_or}
use Rattle.hw_cells.specs.declared.cell.Pin.{Pin}
use Rattle.hw_cells.proofs.ToldLemmas.{marked_all, marked_more, marked_skip}
use Rattle.hw_cells.proofs.told_pairs.add_told_of.Goals.{then-words-place-eq1+in_ok-push, else-words-place-eq1}
use Rattle.hw_cells.proofs.told_pairs.add_told_of.Goals as goal

pub loop-place-preserved : goal.loop-place-preserved
loop-place-preserved c =
    let words = c.args.words.now in
    let bit = c.args.bit in
    let output = c.args.output.now in
    let inputs = c.args.inputs.now in
    let place = c.loop-place.place in
    let zero : Pin = record { port = 0; node = 0 } in
    let at : slice_get inputs place ≡ Some (get_or inputs place zero) = slice_get-get_or inputs place zero c.loop-place-test.true in
    let bits = shr_and_one (get_or words place 0) bit in
    elim c.if-words-place-eq1.branch [
      | then-words-place-eq1+in_ok-push w ↦
          rw w.entries-is
          (marked_more words bit output inputs place (get_or inputs place zero) c.args.entries.now.items c.loop-place.entries.items _ at (grind (arith, nat_tests, w.if-words-place-eq1.true, bits)) w.in_ok-push.ensures.items c.loop-place.invariant)
      | else-words-place-eq1 w ↦
          rw w.entries-is
          (marked_skip words bit output inputs place c.args.entries.now.items c.loop-place.entries.items (λ has. grind (arith, nat_tests, w.if-words-place-eq1.false, bits, has)) c.loop-place.invariant)
    ]

pub returns : goal.returns
returns c = marked_all c.args.words.now c.args.bit c.args.output.now c.args.inputs.now c.loop-place.place c.args.entries.now.items c.loop-place.entries.items c.loop-place-test.false c.loop-place.invariant
