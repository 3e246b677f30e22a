use Rattle.std.proofs.Common.{get_or, sym, subst}
use Rattle.hw_graph.proofs.ComponentLemmas.{below_more}
use Rattle.hw_graph.specs.inside.Components.{AreBelow}
use Rattle.hw_graph.proofs.components.add_reader.Goals as goal

pub loop-port-preserved : goal.loop-port-preserved
loop-port-preserved c = λ count lt all below.
    let i = c.loop-port.port-index in
    subst (AreBelow count) (sym c.in_ok-push.ensures.items)
    (below_more count c.loop-port.entries.items (record { key = get_or c.args.ports.now i 0; value = c.args.reader }) (all i 0 c.loop-port-test.true) lt (c.loop-port.invariant count lt all below))
