use Rattle.std.proofs.Common.{◌≡◌, ◌+◌, ◌<◌, ◌∙◌, ℕ, List, ap, arith, drop, get_or, length, refl, set, subst, sym}
use Rattle.std.specs.Prelude.{All}
use Rattle.std.proofs.lemmas.List.Elements.{All-set}
use Rattle.hw_cells.specs.inside.Told.{IsShifted, IsSound, outputs_of}
use Rattle.hw_cells.specs.inside.Words.{TellReached}
use Rattle.hw_cells.proofs.ToldLemmas.{ends_within, outputs_sound, rest_after, told_sound}
use Rattle.hw_cells.proofs.told.tell_together.Goals as goal

pub reached_together-requires-clause-within : goal.reached_together-requires-clause-within
reached_together-requires-clause-within c =
    let reads = c.args.reads.now in
    subst (All (λ (node : ℕ). node < length reads)) (sym (c.deref.ensures.value ∙ c.in_ok-nodes.ensures)) (outputs_sound reads c.args.cells.now c.requires.sound)

pub tell_cell-requires-clause-room : goal.tell_cell-requires-clause-room
tell_cell-requires-clause-room c =
    let reads = c.args.reads.now in
    let nodes = c.in_ok-nodes.nodes.items in
    let words = c.in_ok-words.words.items in
    let reached = subst (λ (list : List ℕ). TellReached reads list words) c.deref.ensures.value c.in_ok-words.ensures.reached in
    let here = c.loop-cell in
    let cell = get_or here.cells here.cell-index c.cell-item.result in
    let within : here.cell-index < length here.cells = omega (arith, c.loop-cell-test.true, here.auto.cells) in
    let ends = ends_within reads nodes words here.first here.cell-index here.cells c.cell-item.result cell reached within here.invariant.first here.invariant.rest refl refl in
    omega (arith, ends, ap length c.in_ok-nodes.ensures, c.requires.few)

pub loop-cell-preserved : goal.loop-cell-preserved
loop-cell-preserved c =
    let reads = c.args.reads.now in
    let nodes = c.in_ok-nodes.nodes.items in
    let words = c.in_ok-words.words.items in
    let reached = subst (λ (list : List ℕ). TellReached reads list words) c.deref.ensures.value c.in_ok-words.ensures.reached in
    let here = c.loop-cell in
    let d = c.cell-item.result in
    let cell = get_or here.cells here.cell-index d in
    let new = c.tell_cell.new.cell in
    let same_outputs = c.tell_cell.ensures.outputs in
    let same_inputs = c.tell_cell.ensures.inputs in
    let within : here.cell-index < length here.cells = omega (arith, c.loop-cell-test.true, here.auto.cells) in
    let shifted = subst (λ (list : List ℕ). IsShifted list here.first new) c.deref-in-loop-cell.ensures.value c.in_ok-tell_cell.ensures.told in
    let size_is : c.len-first.result ≡ length cell.outputs.items = omega (arith, c.len-first.ensures, new.outputs.ok.0, ap length same_outputs) in
    let ends = ends_within reads nodes words here.first here.cell-index here.cells d new reached within here.invariant.first here.invariant.rest same_outputs same_inputs in
    let rest = rest_after reads nodes words here.first here.cell-index here.cells d new reached within here.invariant.first here.invariant.rest same_outputs same_inputs in
    let sound = told_sound reads nodes words here.first here.cell-index here.cells d new reached within here.invariant.first here.invariant.rest same_outputs same_inputs shifted (here.invariant.sound here.cell-index d within) in
    record {
      first = omega (arith, size_is, ends);
      rest = subst (λ (size : ℕ). drop (here.first + size) nodes ≡ outputs_of (drop (here.cell-index + 1) (set here.cells here.cell-index new))) (sym size_is) rest;
      sound = All-set (IsSound reads) here.cells here.cell-index new sound here.invariant.sound;
    }
