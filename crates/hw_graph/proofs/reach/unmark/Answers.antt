use Rattle.std.proofs.Common.{arith}
use Rattle.hw_graph.proofs.ReachLemmas.{no_marks, unmarked_more}
use Rattle.hw_graph.proofs.SearchLemmas.{contained_at}
use Rattle.hw_graph.proofs.reach.unmark.Goals as goal

pub loop-port-init : goal.loop-port-init
loop-port-init c = λ port is.
    let has = c.requires.others port is in
    (has.0, omega arith, has.1, contained_at c.args.ports.now port has)

pub loop-port-preserved : goal.loop-port-preserved
loop-port-preserved c =
    unmarked_more c.loop-port.marks c.args.ports.now c.loop-port.port-index (omega (arith, c.requires.in_range c.loop-port.port-index c.loop-port-test.true, c.loop-port.auto.marks)) c.loop-port.invariant

pub returns : goal.returns
returns c = no_marks c.loop-port.marks (λ port is.
    let r = c.loop-port.invariant port is in
    omega (arith, r.1, r.2, c.loop-port-test.false))
