use Rattle.std.proofs.Common.{ℕ, ◌<◌, All, take}
use Rattle.fil_rules.proofs.sharing.apart.are_below.Given as goal

-- the numbers so far are below the end
abbrev pub invariant-loop-number : goal.invariant-loop-number
invariant-loop-number l = All (λ (k : ℕ). k < l.end) (take l.number-index l.numbers)
