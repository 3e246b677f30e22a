use Rattle.std.proofs.Common.{inl, inr}
use Rattle.fil_share.proofs.SharingLemmas.{first_more}
use Rattle.fil_share.proofs.span.first_of.Goals as goal
use Rattle.fil_share.proofs.span.first_of.Goals.{then-hold-first, else-hold-first}

pub loop-hold-preserved : goal.loop-hold-preserved
loop-hold-preserved c =
    first_more c.args.earlier.now c.loop-hold.hold-index c.args.use_now.now c.loop-hold.first c.if-hold-first.first c.loop-hold-test.true c.loop-hold.invariant
    (elim c.if-hold-first.branch [
      | then-hold-first w ↦ inl (w.first-is, w.if-hold-first.true)
      | else-hold-first w ↦ inr (w.first-is, w.if-hold-first.false)
    ])
