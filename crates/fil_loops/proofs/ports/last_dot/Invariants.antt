use Rattle.std.proofs.Common.{◌≤◌, drop, length}
use Rattle.hw_names.specs.Name.{HasNoDot}
use Rattle.fil_loops.proofs.ports.last_dot.Given as goal

-- no dot from here on
abbrev pub invariant-loop-place : goal.invariant-loop-place
invariant-loop-place l = record {
  within : l.place ≤ length l.text;
  rest : HasNoDot (drop l.place l.text);
}

abbrev pub decreases-loop-place : goal.decreases-loop-place
decreases-loop-place l = l.place
