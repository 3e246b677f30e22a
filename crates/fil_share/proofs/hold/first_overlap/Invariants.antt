use Rattle.std.proofs.Common.{All, take}
use Rattle.fil_share.specs.Sharing.{AreApart}
use Rattle.fil_share.proofs.hold.first_overlap.Given as goal

-- no use before this one overlaps
abbrev pub invariant-loop-place : goal.invariant-loop-place
invariant-loop-place l = All (λ hold. AreApart hold l.use_now) (take l.place l.earlier)
