use Rattle.std.proofs.Common.{◌≡◌, ◌≤◌, length, take}
use Rattle.net_steps.specs.Runs.{all_operations}
use Rattle.net_steps.proofs.runs.cut.Given as goal

-- the runs so far have the first steps
abbrev pub invariant-loop-number : goal.invariant-loop-number
invariant-loop-number l = record {
  done : l.done ≤ length l.steps;
  all : all_operations l.runs.items ≡ take l.done l.steps;
}
