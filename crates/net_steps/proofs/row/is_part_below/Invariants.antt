use Rattle.std.proofs.Common.{◌≡◌, ℕ, ◌+◌, ◌<◌, Some, map}
use Rattle.std.specs.Prelude.{slice_get}
use Rattle.net_steps.specs.Operations.{IsBelow}
use Rattle.net_steps.specs.declared.operation.Operation.{Operation}
use Rattle.net_steps.proofs.row.is_part_below.Given as goal

-- the first steps are below
abbrev pub invariant-loop-number : goal.invariant-loop-number
invariant-loop-number g l = (k : ℕ) (step : Operation) → k < l.number → slice_get (map g.S.Step.meaning l.steps) k ≡ Some step → IsBelow l.others l.choices (l.base + k) step
