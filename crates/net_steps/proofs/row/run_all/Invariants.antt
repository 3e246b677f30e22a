use Rattle.std.proofs.Common.{◌≡◌, ℕ, ◌+◌, ◌<◌, length, take}
use Rattle.std.specs.Prelude.{slice_index}
use Rattle.net_steps.specs.Operations.{AreMade}
use Rattle.net_steps.specs.Runs.{all_operations}
use Rattle.net_steps.proofs.row.run_all.Given as goal

-- the first runs are made, and the slots before them are as they were
abbrev pub invariant-loop-run : goal.invariant-loop-run
invariant-loop-run l = record {
  count : length l.slots ≡ length l.fn.slots;
  first : l.first ≡ l.base + length (all_operations (take l.run-index l.runs));
  opening : (k : ℕ) → k < l.base → slice_index l.slots k ≡ slice_index l.fn.slots k;
  made : AreMade l.others l.choices l.base (all_operations (take l.run-index l.runs)) l.slots;
}
