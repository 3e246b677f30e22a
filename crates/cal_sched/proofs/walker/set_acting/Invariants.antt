use Rattle.std.proofs.Common.{◌≡◌, ℕ, ◌<◌, false, get_or}
use Rattle.cal_sched.specs.Walking.{acts_by}
use Rattle.cal_sched.proofs.walker.set_acting.Given as goal

-- the marks so far tell whether their actors act
abbrev pub invariant-loop-actor : goal.invariant-loop-actor
invariant-loop-actor l = (k : ℕ) → k < l.actor → get_or l.acting k false ≡ acts_by l.marks l.done l.runs k
