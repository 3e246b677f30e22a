use Rattle.std.proofs.Common.{arith, get_or}
use Rattle.hw_graph.proofs.CycleLemmas.{cycle_reaches, least_of_all}
use Rattle.hw_graph.proofs.least_loop.order_or_least_loop.Goals as goal

pub unreachable-requires : goal.unreachable-requires
unreachable-requires c =
    let none = rw c.in-None.is at c.in_ok-ports-in-Err-Loop.ensures.none in
    let cycle = rw c.in-Err-Loop.field-0-is at c.in-Err-Loop.ensures.cycle in
    let first = get_or c.in-Err-Loop._some.items 0 0 in
    none first (omega (arith, cycle.trail.in_range 0 cycle.some, c.requires.names)) (cycle_reaches c.args.reads.now c.in-Err-Loop._some.items cycle)

pub returns-in-Some-clause-cycle : goal.returns-in-Some-clause-cycle
returns-in-Some-clause-cycle c =
    least_of_all c.args.reads.now c.args.names.now c.in-Some.ports.items c.requires.names (rw c.in-Some.is at c.in_ok-ports-in-Err-Loop.ensures.some)
