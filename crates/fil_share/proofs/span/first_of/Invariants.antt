use Rattle.std.proofs.Common.{[], ◌∷◌, ◌++◌, take}
use Rattle.fil_share.specs.Sharing.{StartsFirst}
use Rattle.fil_share.proofs.span.first_of.Given as goal

-- it is so of the uses before this one
abbrev pub invariant-loop-hold : goal.invariant-loop-hold
invariant-loop-hold l = StartsFirst (take l.hold-index l.earlier ++ l.use_now ∷ []) l.first
