use Rattle.std.proofs.Common.{Option, get_or, refl, subst}
use Rattle.std.specs.Prelude.{IfSome}
use Rattle.hw_cells.specs.inside.Pairs.{AreReached, is_reached}
use Rattle.hw_cells.specs.declared.search.Reached.{Reached}
use Rattle.hw_cells.proofs.PairLemmas.{pairs_next}
use Rattle.hw_cells.proofs.SearchLemmas.{nodes_tell}
use Rattle.hw_cells.proofs.search.add_searched.Goals as goal

pub loop-start-preserved : goal.loop-start-preserved
loop-start-preserved c =
    let reads = c.args.reads.now in
    let starts = c.args.starts.now in
    let start = get_or starts c.loop-start.start-index _ in
    let nodes = c.in-Some-2.reached.nodes.keys in
    let are : AreReached reads start.output.node nodes = subst (λ (found : Option Reached). IfSome found (λ reached. AreReached reads start.output.node reached.nodes.keys)) c.in-Some-2.is c.in_ok-reached.ensures in
    pairs_next reads (is_reached nodes) starts c.loop-start.start-index _ start c.args.entries.now.items c.loop-start.entries.items c.add_reached.new.entries.items (nodes_tell reads start.output.node nodes are) c.loop-start-test.true refl c.in_ok-add_reached.ensures c.loop-start.invariant
