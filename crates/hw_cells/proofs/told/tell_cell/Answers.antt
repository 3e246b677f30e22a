use Rattle.std.proofs.Common.{◌↔◌, ◌/◌, ◌^◌, ◌+◌, ℕ, List, [], ◌∷◌, ap, arith, get_or, length, length-append, subst, sym}
use Rattle.hw_cells.specs.Cells.{HasBit}
use Rattle.hw_cells.proofs.ToldLemmas.{shifted_more, shifted_none}
use Rattle.hw_cells.proofs.told.tell_cell.Goals as goal

pub loop-input-init : goal.loop-input-init
loop-input-init c = record {
  all = ap length c.new-told.ensures.items;
  shifted = shifted_none c.args.words.now c.deref-input-items.result.now c.new-told.result.items c.args.first c.new-told.ensures.items;
}

pub loop-input-preserved : goal.loop-input-preserved
loop-input-preserved c =
    let words = c.args.words.now in
    let inputs = c.deref-input-items.result.now in
    let told = c.loop-input.told.items in
    let first = c.args.first in
    let shifted = λ (place : ℕ). get_or words (get_or inputs place 0) 0 / 2 ^ first in
    let pushed = c.in_ok-push.ensures.items in
    record {
      all = omega (arith, ap length pushed, length-append told (shifted c.loop-input.input-index ∷ []), c.loop-input.invariant.all);
      shifted = shifted_more words inputs told c.push.new.self.items first (shifted c.loop-input.input-index) (ap shifted (sym c.loop-input.invariant.all)) pushed c.loop-input.invariant.shifted;
    }

pub returns-clause-told : goal.returns-clause-told
returns-clause-told c = λ bit place lt within.
    let words = c.args.words.now in
    let told = c.loop-input.told.items in
    subst (λ (inputs : List ℕ). HasBit (get_or told place 0) bit ↔ HasBit (get_or words (get_or inputs place 0) 0) (c.args.first + bit)) c.deref-input-items.ensures.value (c.loop-input.invariant.shifted bit place within)
