use Rattle.std.proofs.Common.{◌≡◌, take}
use Rattle.cal_wires.proofs.ports.Ports.keys.Given as goal

-- the keys so far
abbrev pub invariant-loop-place : goal.invariant-loop-place
invariant-loop-place l = l.keys ≡ take l.place l.self.keys
