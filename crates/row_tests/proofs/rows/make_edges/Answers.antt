use Rattle.row_tests.proofs.PairLemmas.{edges_keep}
use Rattle.row_tests.proofs.rows.make_edges.Goals as goal

pub returns-clause-pair : goal.returns-clause-pair
returns-clause-pair c =
    let pair = c.args.pair.now in
    (edges_keep pair.ports pair.shown pair.plain pair.flat c.edge.new.self c.edge-2.new.self
    c.requires c.edge.ensures.evaluated c.edge.ensures.others c.edge-2.ensures.evaluated c.edge-2.ensures.others).0

pub returns-clause-net : goal.returns-clause-net
returns-clause-net c =
    let pair = c.args.pair.now in
    (edges_keep pair.ports pair.shown pair.plain pair.flat c.edge.new.self c.edge-2.new.self
    c.requires c.edge.ensures.evaluated c.edge.ensures.others c.edge-2.ensures.evaluated c.edge-2.ensures.others).1
