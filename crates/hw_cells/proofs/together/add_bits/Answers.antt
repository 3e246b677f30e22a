use Rattle.std.proofs.Common.{◌<◌, ℕ, List, sym, subst, arith, get_or, set, length, bit_or, take}
use Rattle.std.proofs.lemmas.List.{take_more, take_all}
use Rattle.hw_cells.proofs.TogetherLemmas.{AreGiven, given_none, given_more}
use Rattle.hw_cells.proofs.together.add_bits.Goals as goal

pub loop-node-init : goal.loop-node-init
loop-node-init c = given_none c.args.word c.args.words.now

pub loop-node-preserved : goal.loop-node-preserved
loop-node-preserved c =
    let nodes = c.args.nodes.now in
    let old = c.args.words.now in
    let new = c.loop-node.words in
    let index = c.loop-node.node-index in
    let node = get_or nodes index 0 in
    let word = c.args.word in
    let within : node < length new = omega (arith, c.requires index 0 c.loop-node-test.true, c.loop-node.auto.words) in
    subst (λ (given : List ℕ). AreGiven word given old (set new node (bit_or (get_or new node 0) word))) (sym (take_more nodes index 0 c.loop-node-test.true))
    (given_more word (take index nodes) old new node within c.loop-node.invariant)

pub returns-clause-each : goal.returns-clause-each
returns-clause-each c =
    subst (λ (given : List ℕ). AreGiven c.args.word given c.args.words.now c.loop-node.words) (take_all c.loop-node.node-index c.args.nodes.now c.loop-node-test.false) c.loop-node.invariant
