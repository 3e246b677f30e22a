use Rattle.net_steps.proofs.ApartLemmas.{asks_by, first_follows, second_follows, one_follows}
use Rattle.net_steps.proofs.asked.asked_numbers.Goals as goal

pub returns-in-Some-numbers_of : goal.returns-in-Some-numbers_of
returns-in-Some-numbers_of c =
    let steps = c.args.steps.now in
    let two = c.in_ok-left in
    let left = first_follows steps c.args.truth c.loop.rest two.left two.right c.loop.invariant two.ensures in
    asks_by steps c.args.truth two.left c.args.slot c.in-Some-numbers_of.numbers.items left c.in-Some-numbers_of.ensures

pub returns-in-Some-numbers_of-2 : goal.returns-in-Some-numbers_of-2
returns-in-Some-numbers_of-2 c =
    let steps = c.args.steps.now in
    let two = c.in_ok-left in
    let right = second_follows steps c.args.truth c.loop.rest two.left two.right c.loop.invariant two.ensures in
    asks_by steps c.args.truth two.right c.args.slot c.in-Some-numbers_of-2.numbers.items right c.in-Some-numbers_of-2.ensures

pub loop-preserved : goal.loop-preserved
loop-preserved c =
    let two = c.in_ok-left in
    one_follows c.args.steps.now c.args.truth c.loop.rest two.left two.right c.deeper-rest.result c.loop.invariant two.ensures c.deeper-rest.ensures
