use Rattle.std.proofs.Common.{arith}
use Rattle.fil_place.specs.Uses.{MOST_HOLD}
use Rattle.fil_rules.proofs.SpanLemmas.{most_held, order_more, small_more}
use Rattle.fil_rules.proofs.SpanStartLemmas.{span_all}
use Rattle.fil_rules.proofs.sharing.in_time.span_of.Goals as goal

pub returns-clause-spans : goal.returns-clause-spans
returns-clause-spans c names comp sig at with v u is lists is_u event shows =
    span_all names comp c.args.tables.now c.args.instance sig at with v is lists c.args.number u is_u event c.first_from-earliest.result c.last_until-latest.result c.first_from-earliest.ensures.found c.last_until-latest.ensures.found
    c.args.own shows c.widened-longer.result c.widened.result c.widened-longer.ensures.same c.widened-longer.ensures.first c.widened-longer.ensures.last c.widened.ensures.same c.widened.ensures.first c.widened.ensures.last

pub returns-clause-order : goal.returns-clause-order
returns-clause-order c =
    order_more c.widened-longer.result c.widened.result c.last_until-latest.result c.widened.ensures.same c.widened.ensures.first c.widened.ensures.last
    (order_more _ c.widened-longer.result c.first_from-earliest.result c.widened-longer.ensures.same c.widened-longer.ensures.first c.widened-longer.ensures.last (omega arith))

pub returns-clause-small : goal.returns-clause-small
returns-clause-small c =
    small_more c.widened-longer.result c.widened.result c.last_until-latest.result MOST_HOLD c.widened.ensures.same c.widened.ensures.last (most_held c.last_until-latest.result c.last_until-latest.ensures.small)
    (small_more _ c.widened-longer.result c.first_from-earliest.result MOST_HOLD c.widened-longer.ensures.same c.widened-longer.ensures.last (most_held c.first_from-earliest.result c.first_from-earliest.ensures.small) c.requires.small)
