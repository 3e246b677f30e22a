use Rattle.std.proofs.Common.{arith}
use Rattle.hw_graph.proofs.ByNameLemmas.{so_far_within, so_far_same, so_far_more, least_none, least_some}
use Rattle.hw_graph.proofs.by_name.least_marked.Goals.{then-marked, else-marked}
use Rattle.hw_graph.proofs.by_name.least_marked.Goals as goal

pub lesser_of-requires-clause-found : goal.lesser_of-requires-clause-found
lesser_of-requires-clause-found c =
    so_far_within c.args.names.now c.args.marks.now c.loop-port.port c.loop-port.least (omega (arith, c.loop-port-test.true, c.requires)) c.loop-port.invariant

pub loop-port-preserved : goal.loop-port-preserved
loop-port-preserved c =
    let names = c.args.names.now in
    let marks = c.args.marks.now in
    let n = c.loop-port.port in
    elim c.if-marked.branch [
      | then-marked w ↦
          rw w.least-is (so_far_more names marks n c.loop-port.least w.lesser_of.result w.if-marked.true c.loop-port.invariant w.lesser_of.ensures)
      | else-marked w ↦ rw w.least-is (so_far_same names marks n c.loop-port.least w.if-marked.false c.loop-port.invariant)
    ]

pub returns-clause-none : goal.returns-clause-none
returns-clause-none c = least_none c.args.names.now c.args.marks.now c.loop-port.port c.loop-port.least c.loop-port-test.false c.loop-port.invariant

pub returns-clause-some : goal.returns-clause-some
returns-clause-some c =
    least_some c.args.names.now c.args.marks.now c.loop-port.port c.loop-port.least c.loop-port-test.false c.loop-port.auto.port-end c.loop-port.invariant
