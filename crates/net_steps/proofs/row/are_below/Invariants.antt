use Rattle.std.proofs.Common.{◌≡◌, ◌+◌, length, take}
use Rattle.net_steps.specs.Operations.{AreBelow}
use Rattle.net_steps.specs.Runs.{all_operations}
use Rattle.net_steps.proofs.row.are_below.Given as goal

-- the steps of the first runs are below
abbrev pub invariant-loop-run : goal.invariant-loop-run
invariant-loop-run l = record {
  first : l.first ≡ l.base + length (all_operations (take l.run-index l.runs));
  below : AreBelow l.others l.choices l.base (all_operations (take l.run-index l.runs));
}
