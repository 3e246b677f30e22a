use Rattle.std.proofs.Common.{◌≡◌, take}
use Rattle.std.specs.List.{sum}
use Rattle.fil_check.specs.inside.Weights.{capped}
use Rattle.fil_check.proofs.weight.total.Given as goal

-- the numbers so far are added
abbrev pub invariant-loop-number : goal.invariant-loop-number
invariant-loop-number l = l.total ≡ capped (sum (take l.number-index l.numbers))
