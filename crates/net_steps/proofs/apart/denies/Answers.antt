use Rattle.net_steps.proofs.ApartLemmas.{denied_by, first_follows, second_follows, one_follows}
use Rattle.net_steps.proofs.apart.denies.Goals as goal
use Rattle.net_steps.proofs.apart.denies.Goals.{then-are_contrary-2-via-then-are_contrary-2, then-are_contrary-2-via-else-are_contrary-2+then-are_contrary-3}

pub returns-then-are_contrary-2 : goal.returns-then-are_contrary-2
returns-then-are_contrary-2 c e others slots row =
    let steps = c.args.steps.now in
    let two = c.in-Some in
    elim c.then-are_contrary-2.branch [
      | then-are_contrary-2-via-then-are_contrary-2 w ↦
          denied_by steps c.args.truth two.left c.args.whole (first_follows steps c.args.whole c.loop.rest two.left two.right c.loop.invariant two.ensures) (c.are_contrary-in-loop.ensures w.if-are_contrary-2.true) others slots row
      | then-are_contrary-2-via-else-are_contrary-2+then-are_contrary-3 w ↦
          denied_by steps c.args.truth two.right c.args.whole (second_follows steps c.args.whole c.loop.rest two.left two.right c.loop.invariant two.ensures) (w.are_contrary-else-are_contrary-2.ensures w.if-are_contrary-3.true) others slots row
    ]

pub loop-preserved : goal.loop-preserved
loop-preserved c =
    let two = c.in-Some in
    one_follows c.args.steps.now c.args.whole c.loop.rest two.left two.right c.deeper-rest.result c.loop.invariant two.ensures c.deeper-rest.ensures
