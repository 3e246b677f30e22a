use Rattle.std.proofs.Common.{◌≡◌, length, take}
use Rattle.net_steps.specs.Runs.{all_operations}
use Rattle.net_steps.proofs.runs.step_count.Given as goal

-- the number of the steps so far
abbrev pub invariant-loop-run : goal.invariant-loop-run
invariant-loop-run l = l.number ≡ length (all_operations (take l.run-index l.runs))
