use Rattle.std.proofs.Common.{◌≡◌, ◌≤◌, ◌-◌, ◌++◌, drop, length}
use Rattle.cal_wires.specs.Nodes.{marked}
use Rattle.cal_wires.proofs.full_names.name_in.Given as goal

-- what was read of the key, and what is left of it
abbrev pub invariant-loop-byte : goal.invariant-loop-byte
invariant-loop-byte l = record {
  within : l.place ≤ length l.key;
  read : l.key ≡ marked l.name.items ++ drop l.place l.key;
}

abbrev pub decreases-loop-byte : goal.decreases-loop-byte
decreases-loop-byte l = length l.key - l.place
