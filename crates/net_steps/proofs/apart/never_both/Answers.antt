use Rattle.net_steps.proofs.ApartLemmas.{part_denied, first_follows, second_follows, one_follows}
use Rattle.net_steps.proofs.apart.never_both.Goals as goal
use Rattle.net_steps.proofs.apart.never_both.Goals.{then-denies-2-via-then-denies-2, then-denies-2-via-else-denies-2+then-denies-3}

pub returns-then-denies-2 : goal.returns-then-denies-2
returns-then-denies-2 c e others slots row =
    let steps = c.args.steps.now in
    let two = c.in-Some in
    elim c.then-denies-2.branch [
      | then-denies-2-via-then-denies-2 w ↦
          part_denied steps c.args.one two.left c.args.other (first_follows steps c.args.one c.loop.rest two.left two.right c.loop.invariant two.ensures) (c.denies-in-loop.ensures w.if-denies-2.true) others slots row
      | then-denies-2-via-else-denies-2+then-denies-3 w ↦
          part_denied steps c.args.one two.right c.args.other (second_follows steps c.args.one c.loop.rest two.left two.right c.loop.invariant two.ensures) (w.denies-else-denies-2.ensures w.if-denies-3.true) others slots row
    ]

pub loop-preserved : goal.loop-preserved
loop-preserved c =
    let two = c.in-Some in
    one_follows c.args.steps.now c.args.one c.loop.rest two.left two.right c.deeper-rest.result c.loop.invariant two.ensures c.deeper-rest.ensures
