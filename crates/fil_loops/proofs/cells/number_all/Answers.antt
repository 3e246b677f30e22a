use Rattle.std.proofs.Common.{arith}
use Rattle.fil_loops.specs.inside.PortGraph.{NoPair}
use Rattle.fil_loops.proofs.CellLemmas.{all_numbered, numbered_next}
use Rattle.fil_loops.proofs.PortGraphLemmas.{adds_no_more, instance_stays}
use Rattle.fil_loops.proofs.cells.number_all.Goals as goal

pub loop-number-preserved : goal.loop-number-preserved
loop-number-preserved c =
    let old = c.args.graph.now in
    let mid = c.loop-number.graph in
    let so_far = c.loop-number.invariant in
    record {
      adds = adds_no_more old mid _ so_far.adds c.port.ensures.same;
      numbered = λ inst at.
          numbered_next inst mid.ports.names _ c.port.ensures.same.texts c.args.names.now c.loop-number.number c.text_at.result.now c.text_at.ensures c.in_ok-_port._port
          (c.in_ok-_port.ensures.number inst (instance_stays NoPair c.args.instance inst old mid so_far.adds at)) (so_far.numbered inst at);
    }

pub returns-clause-numbered : goal.returns-clause-numbered
returns-clause-numbered c inst at =
    all_numbered inst c.loop-number.graph.ports.names c.args.names.now c.loop-number.number (omega (arith, c.loop-number-test.false, c.len-number-end.ensures.len)) (c.loop-number.invariant.numbered inst at)
