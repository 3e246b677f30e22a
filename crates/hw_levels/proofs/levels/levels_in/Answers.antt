use Rattle.std.proofs.Common.{sym, subst}
use Rattle.hw_graph.specs.Graph.{IsReadOrder}
use Rattle.hw_levels.proofs.OrderLemmas.{places_rise}
use Rattle.hw_levels.proofs.levels.levels_in.Goals as goal

pub returns-in_ok-places_in-in-Ok-clause-below : goal.returns-in_ok-places_in-in-Ok-clause-below
returns-in_ok-places_in-in-Ok-clause-below c =
    let reads = c.args.reads.now in
    let is = subst (IsReadOrder reads) (sym c.as_slice.ensures.value) c.in-Ok.ensures.order in
    places_rise reads c.as_slice.result.now c.in_ok-places_in-in-Ok.field-0.items is c.in_ok-places_in-in-Ok.ensures.each
