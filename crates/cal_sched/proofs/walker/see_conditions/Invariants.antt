use Rattle.std.proofs.Common.{◌≡◌, ℕ, ◌<◌, false, get_or}
use Rattle.cal_sched.specs.Walking.{is_one}
use Rattle.cal_sched.proofs.walker.see_conditions.Given as goal

-- the marks so far tell which conditions read 1
abbrev pub invariant-loop-number : goal.invariant-loop-number
invariant-loop-number l = (k : ℕ) → k < l.number → get_or l.reads k false ≡ is_one l.sim.values (get_or l.conditions k 0)
