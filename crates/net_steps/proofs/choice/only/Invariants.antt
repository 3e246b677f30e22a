use Rattle.std.proofs.Common.{◌≡◌, ◌≤◌, length, take}
use Rattle.net_core.specs.Circuit.{settled}
use Rattle.net_steps.specs.Operations.{values_on}
use Rattle.net_steps.proofs.choice.only.Given as goal

-- how many are on of the first choices, and the value of the one, where there is at most one
abbrev pub invariant-loop-choice : goal.invariant-loop-choice
invariant-loop-choice l = record {
  within : l.count ≤ l.choice-index;
  counted : l.count ≡ length (values_on l.slots (take l.choice-index l.choices));
  few : l.count ≤ 1 → l.values ≡ settled (values_on l.slots (take l.choice-index l.choices));
}
