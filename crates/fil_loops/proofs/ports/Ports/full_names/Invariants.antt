use Rattle.std.proofs.Common.{◌≡◌, take}
use Rattle.fil_loops.proofs.ports.Ports.full_names.Given as goal

-- the full names so far
abbrev pub invariant-loop-place : goal.invariant-loop-place
invariant-loop-place l = l.names ≡ take l.place l.self.names
