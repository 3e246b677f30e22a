use Rattle.std.proofs.Common.{◌≡◌, map, take}
use Rattle.net_steps.proofs.runs.gather.Given as goal

-- the steps so far
abbrev pub invariant-loop-step : goal.invariant-loop-step
invariant-loop-step g l = map g.S.Step.meaning l.gathered.items ≡ take l.step-index l.steps
