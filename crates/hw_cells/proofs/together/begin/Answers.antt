use Rattle.std.proofs.Common.{◌≡◌, ◌∙◌, ◌<◌, ap, arith, get_or, length, length-set, replicate}
use Rattle.std.proofs.lemmas.List.{get_or_default, length-replicate}
use Rattle.std.proofs.lemmas.Option.{slice_get-get_or}
use Rattle.hw_cells.proofs.TogetherLemmas.{tell_none, tell_more, tell_all}
use Rattle.hw_cells.proofs.together.begin.Goals as goal

pub loop-bit-init : goal.loop-bit-init
loop-bit-init c =
    let zeros : c.in_ok-words.words.items ≡ replicate c.args.nodes 0 = c.in_ok-words.ensures.items_if_clones_equal (λ y same. same) in
    record {
      all = ap length zeros ∙ length-replicate c.args.nodes 0;
      told = tell_none c.args.nodes c.args.starts.now c.in_ok-words.words.items zeros;
    }

pub index_mut-requires : goal.index_mut-requires
index_mut-requires c =
    omega (arith, c.requires.within c.loop-bit.bit 0 c.loop-bit-test.true, c.loop-bit.invariant.all, c.loop-bit.words.ok.0)

pub loop-bit-preserved : goal.loop-bit-preserved
loop-bit-preserved c =
    let starts = c.args.starts.now in
    let words = c.loop-bit.words.items in
    let bit = c.loop-bit.bit in
    let start = get_or starts bit 0 in
    let word = c.index_mut.result.now in
    let within : start < length words = omega (arith, c.requires.within bit 0 c.loop-bit-test.true, c.loop-bit.invariant.all) in
    record {
      all = length-set words start _ ∙ c.loop-bit.invariant.all;
      told = tell_more starts words bit start word (omega (arith, c.loop-bit-test.true, c.requires.few)) (slice_get-get_or starts bit 0 c.loop-bit-test.true) within (c.index_mut.ensures.value ∙ get_or_default words start word 0 within) c.loop-bit.invariant.told;
    }

pub returns-clause-all : goal.returns-clause-all
returns-clause-all c = c.loop-bit.invariant.all

pub returns-clause-starts : goal.returns-clause-starts
returns-clause-starts c = tell_all c.args.starts.now c.loop-bit.words.items c.loop-bit.bit c.loop-bit-test.false c.loop-bit.invariant.told
