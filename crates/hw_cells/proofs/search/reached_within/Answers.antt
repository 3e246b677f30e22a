use Rattle.std.proofs.Common.{◌≡◌, ◌<◌, Some, sym, arith, get_or, length, slice_get, subst}
use Rattle.std.proofs.lemmas.Option.{get_or_from_slice_get}
use Rattle.hw_cells.proofs.SearchLemmas.{node_within, searched_all, searched_more, searched_start}
use Rattle.hw_cells.proofs.search.reached_within.Goals as goal

pub loop-next-init : goal.loop-next-init
loop-next-init c = searched_start c.args.reads.now c.args.start c.new-nodes.result.keys c.insert.new.self.keys c.new-nodes.ensures.empty c.in_ok-insert.ensures.keys

pub get-node_reads-requires : goal.get-node_reads-requires
get-node_reads-requires c =
    let nodes = c.loop-next.nodes.keys in
    let next = c.loop-next.next in
    let within : next < length nodes = omega (arith, c.loop-next-test.true, c.len.ensures.len) in
    let at : get_or nodes next 0 ≡ c.index.result.now = get_or_from_slice_get nodes next c.index.result.now 0 c.index.ensures in
    omega (arith, at, node_within c.args.reads.now c.args.start nodes next c.loop-next.invariant c.requires.in_range c.requires.start within)

pub loop-next-preserved : goal.loop-next-preserved
loop-next-preserved c =
    let reads = c.args.reads.now in
    let nodes = c.loop-next.nodes.keys in
    let next = c.loop-next.next in
    let got = c.get-node_reads.result.now in
    let within : next < length nodes = omega (arith, c.loop-next-test.true, c.len.ensures.len) in
    let at : get_or nodes next 0 ≡ c.index.result.now = get_or_from_slice_get nodes next c.index.result.now 0 c.index.ensures in
    let got_at : slice_get reads (get_or nodes next 0) ≡ Some got = subst (λ node. slice_get reads node ≡ Some got) (sym at) c.get-node_reads.ensures in
    searched_more reads c.args.start nodes next c.loop-next.invariant got c.add_all.new.nodes.keys within got_at c.in_ok-add_all.ensures

pub returns : goal.returns
returns c = searched_all c.args.reads.now c.args.start c.loop-next.nodes.keys c.loop-next.next c.loop-next.invariant (omega (arith, c.loop-next-test.false, c.len.ensures.len))
