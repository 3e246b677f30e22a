use Rattle.std.proofs.Common.{get_or, ◌∙◌, arith, length-set}
use Rattle.hw_levels.proofs.OrderLemmas.{places_more}
use Rattle.hw_levels.proofs.levels.places_in.Goals as goal

pub loop-place-preserved : goal.loop-place-preserved
loop-place-preserved c =
    let order = c.args.order.now in
    let places = c.loop-place.places.items in
    let place = c.loop-place.place in
    record {
      all = length-set places (get_or order place 0) place ∙ c.loop-place.invariant.all;
      each = places_more order places place c.loop-place-test.true (omega (arith, c.requires place 0 c.loop-place-test.true, c.loop-place.invariant.all)) c.loop-place.invariant.each;
    }
