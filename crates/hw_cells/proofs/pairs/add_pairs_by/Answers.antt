use Rattle.std.proofs.Common.{List, get_or, map, refl, subst}
use Rattle.std.proofs.lemmas.List.{take_all}
use Rattle.hw_cells.specs.inside.Pairs.{AddsPairs, has_bit}
use Rattle.hw_cells.specs.declared.pairs.Start.{Start}
use Rattle.hw_cells.proofs.PairLemmas.{bits_tell, pairs_next, pairs_none}
use Rattle.hw_cells.proofs.pairs.add_pairs_by.Goals as goal

pub loop-bit-init : goal.loop-bit-init
loop-bit-init c reads told = pairs_none reads c.args.entries.now.items

pub loop-bit-preserved : goal.loop-bit-preserved
loop-bit-preserved c reads told =
    let starts = c.args.starts.now in
    let nodes = map (λ (start : Start). start.output.node) starts in
    let start = get_or starts c.loop-bit.bit _ in
    let tells = bits_tell reads starts nodes c.args.words.now c.loop-bit.bit _ start refl told c.loop-bit-test.true refl in
    pairs_next reads (has_bit c.args.words.now c.loop-bit.bit) starts c.loop-bit.bit _ start c.args.entries.now.items c.loop-bit.entries.items c.add_pairs_of.new.entries.items tells c.loop-bit-test.true refl c.in_ok-add_pairs_of.ensures (c.loop-bit.invariant reads told)

pub returns : goal.returns
returns c reads told =
    let starts = c.args.starts.now in
    subst (λ (list : List Start). AddsPairs reads list c.args.entries.now.items c.loop-bit.entries.items) (take_all c.loop-bit.bit starts c.loop-bit-test.false) (c.loop-bit.invariant reads told)
