use Rattle.hw_bits.specs.Values.{values_of}
use Rattle.net_sim.specs.Sim.{conflict_in}
use Rattle.row_tests.proofs.PairLemmas.{rows_keep}
use Rattle.row_tests.proofs.rows.make_rows.Goals as goal

pub returns-clause-pair : goal.returns-clause-pair
returns-clause-pair c =
    let pair = c.args.pair.now in
    (rows_keep _ _ pair.ports pair.shown pair.plain pair.flat c.row-told.new.self c.row-found.new.self (values_of c.args.inputs.now) (conflict_in c.row-told.result) (conflict_in c.row-found.result)
    c.requires.pair c.row-told.ensures.running c.row-told.ensures.stopped c.row-found.ensures.running c.row-found.ensures.stopped).0

pub returns-clause-net : goal.returns-clause-net
returns-clause-net c =
    let pair = c.args.pair.now in
    (rows_keep _ _ pair.ports pair.shown pair.plain pair.flat c.row-told.new.self c.row-found.new.self (values_of c.args.inputs.now) (conflict_in c.row-told.result) (conflict_in c.row-found.result)
    c.requires.pair c.row-told.ensures.running c.row-told.ensures.stopped c.row-found.ensures.running c.row-found.ensures.stopped).1
