use Rattle.std.proofs.Common.{◌≡◌, ◌∙◌, ◌-◌, ◌<◌, ℕ, List, ap, sym, subst, subst₂, arith, get_or, length}
use Rattle.std.proofs.lemmas.List.{get_or_default, with_items_is}
use Rattle.hw_graph.proofs.ComponentLemmas.{reads_in_range}
use Rattle.hw_cells.proofs.TogetherLemmas.{AreGiven, ArePassedFrom, passed_none, passed_more, passed_all}
use Rattle.hw_cells.proofs.together.reached_together.Goals as goal

pub loop-place-init : goal.loop-place-init
loop-place-init c =
    passed_none c.args.reads.now c.args.order.now c.args.starts.now c.in_ok-words.words.items (c.in_ok-words.ensures.all ∙ c.len.ensures) c.in_ok-words.ensures.starts

pub add_bits-requires : goal.add_bits-requires
add_bits-requires c = λ k d lt.
    let node = get_or c.args.order.now (c.loop-place.place - 1) 0 in
    omega (arith, reads_in_range c.args.reads.now c.requires.in_range node c.get.result.now c.get.ensures k d lt, ap length c.as_mut_slice.ensures.value, c.loop-place.invariant.all)

pub loop-place-preserved : goal.loop-place-preserved
loop-place-preserved c =
    let reads = c.args.reads.now in
    let order = c.args.order.now in
    let starts = c.args.starts.now in
    let left = c.loop-place.place in
    let got = c.get.result.now in
    let old = c.loop-place.words.items in
    let new = c.add_bits.new.words in
    let size : length new ≡ length old = c.add_bits.ensures.all ∙ ap length c.as_mut_slice.ensures.value in
    let node = get_or order (left - 1) 0 in
    let in_words : node < length old = omega (arith, c.requires.order.in_range (left - 1) (omega (arith, c.loop-place-test.true, c.loop-place.auto.place)), c.loop-place.invariant.all) in
    let given = subst₂ (λ (words : List ℕ) (word : ℕ). AreGiven word got words new) c.as_mut_slice.ensures.value (c.index-word.ensures ∙ get_or_default old node c.index-word.result.now 0 in_words) c.add_bits.ensures.each in
    subst (ArePassedFrom (left - 1) reads order starts) (sym (with_items_is c.loop-place.words new (omega (arith, size, c.loop-place.words.ok.0))))
    (passed_more reads order starts old left c.requires.order c.loop-place-test.true c.loop-place.auto.place c.loop-place.invariant got new c.get.ensures size given)

pub returns-clause-reached : goal.returns-clause-reached
returns-clause-reached c =
    let none : c.loop-place.place ≡ 0 = omega (arith, c.loop-place-test.false) in
    passed_all c.args.reads.now c.args.order.now c.args.starts.now c.loop-place.words.items c.requires.order
    (subst (λ (left : ℕ). ArePassedFrom left c.args.reads.now c.args.order.now c.args.starts.now c.loop-place.words.items) none c.loop-place.invariant)
