use Rattle.std.proofs.Common.{◌≡◌, ℕ, ◌<◌, length, map}
use Rattle.std.specs.Prelude.{slice_index}
use Rattle.net_steps.proofs.OperationLemmas.{AreMadeUpto}
use Rattle.net_steps.proofs.row.make.Given as goal

-- the first steps are made, and the slots before them are as they were
abbrev pub invariant-loop-number : goal.invariant-loop-number
invariant-loop-number g l = record {
  count : length l.slots ≡ length l.fn.slots;
  opening : (k : ℕ) → k < l.base → slice_index l.slots k ≡ slice_index l.fn.slots k;
  made : AreMadeUpto l.others l.choices l.base l.number (map g.S.Step.meaning l.steps) l.slots;
}
