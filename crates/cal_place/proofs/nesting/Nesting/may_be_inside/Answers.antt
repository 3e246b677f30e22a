use Rattle.std.proofs.Common.{◌<◌, subst, arith}
use Rattle.std.proofs.lemmas.Bool.Decides.{nat_tests}
use Rattle.cal_place.specs.Nesting.{IsFirstInside, ShowsOrder}
use Rattle.cal_place.proofs.HolderLemmas.{none_inside}
use Rattle.cal_place.proofs.nesting.Nesting.may_be_inside.Goals as goal

pub returns-in-Parts : goal.returns-in-Parts
returns-in-Parts c design shows within told inside =
    none_inside design c.in-Parts._order.items (subst (ShowsOrder design) c.in-Parts.is shows.order) c.args.number within inside

pub returns-in-Loop : goal.returns-in-Loop
returns-in-Loop c design shows within told inside =
    let first : IsFirstInside design c.in-Loop.first = subst (ShowsOrder design) c.in-Loop.is shows.order in
    let less : c.args.number < c.in-Loop.first = grind (arith, nat_tests) in
    first.before c.args.number less inside
