use Rattle.std.proofs.Common.{length}
use Rattle.cal_loops.proofs.ToldCellLemmas.{told_all}
use Rattle.cal_loops.proofs.cells.reached_inputs.with_told.Goals as goal

pub returns : goal.returns
returns c design own known =
    let told = c.in_ok-told.told in
    let reads = c.args.inside.graph.reads in
    record { reached = known.reached; told = told_all reads (length reads) told.cells.len told.cells.items c.tell.new.cells c.in_ok-told.ensures c.in_ok-tell.ensures }
