use Rattle.std.proofs.Common.{◌≡◌, List, ℕ, Some, arith, ap, get_or, length, slice_get, subst, subst₂}
use Rattle.std.proofs.lemmas.Option.{slice_get-get_or}
use Rattle.hw_cells.specs.inside.Told.{AddsAll, IsMarked}
use Rattle.hw_cells.specs.declared.cell.Pin.{Pin}
use Rattle.hw_cells.proofs.ToldLemmas.{reads_all, reads_more}
use Rattle.hw_cells.proofs.told_pairs.add_told_pairs.Goals as goal

pub loop-bit-preserved : goal.loop-bit-preserved
loop-bit-preserved c =
    let cell = c.args.cell.now in
    let told = c.args.told.now in
    let bit = c.loop-bit.bit in
    let zero : Pin = record { port = 0; node = 0 } in
    let outputs_are = c.deref-output-items.ensures.value in
    let listed = c.deref-output-items.result.now in
    let output = get_or listed bit zero in
    let at : slice_get cell.outputs.items bit ≡ Some output =
    subst (λ (list : List Pin). slice_get list bit ≡ Some output) outputs_are (slice_get-get_or listed bit zero c.loop-bit-test.true) in
    let old = c.loop-bit.entries.items in
    let new = c.add_told_of.new.entries.items in
    let marked = subst₂ (λ (words : List ℕ) (inputs : List Pin). AddsAll (IsMarked words bit output inputs) old new) c.words.ensures c.deref.ensures.value c.in_ok-add_told_of.ensures in
    reads_more told cell c.requires.of c.requires.told bit output at c.args.entries.now.items old new c.loop-bit.invariant marked

pub returns : goal.returns
returns c = reads_all c.args.cell.now c.loop-bit.bit c.args.entries.now.items c.loop-bit.entries.items (omega (arith, c.loop-bit-test.false, ap length c.deref-output-items.ensures.value)) c.loop-bit.invariant
