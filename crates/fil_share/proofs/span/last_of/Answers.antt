use Rattle.std.proofs.Common.{inl, inr}
use Rattle.fil_share.proofs.SharingLemmas.{last_more}
use Rattle.fil_share.proofs.span.last_of.Goals as goal
use Rattle.fil_share.proofs.span.last_of.Goals.{then-last-hold, else-last-hold}

pub loop-hold-preserved : goal.loop-hold-preserved
loop-hold-preserved c =
    last_more c.args.earlier.now c.loop-hold.hold-index c.args.use_now.now c.loop-hold.last c.if-last-hold.last c.loop-hold-test.true c.loop-hold.invariant
    (elim c.if-last-hold.branch [
      | then-last-hold w ↦ inl (w.last-is, w.if-last-hold.true)
      | else-last-hold w ↦ inr (w.last-is, w.if-last-hold.false)
    ])
