use Rattle.std.proofs.Common.{arith}
use Rattle.hw_graph.proofs.SearchLemmas.{search_done}
use Rattle.hw_graph.proofs.search.read_order.Goals as goal

pub returns-clause-order : goal.returns-clause-order
returns-clause-order c =
    search_done c.args.reads.now c.loop-port.search c.loop-port.invariant.search c.loop-port.invariant.empty
    (λ port lt. c.loop-port.invariant.seen port (omega (arith, lt)))
