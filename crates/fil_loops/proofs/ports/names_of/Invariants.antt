use Rattle.std.proofs.Common.{◌≡◌, map, take}
use Rattle.fil_loops.specs.inside.Ports.{full_of}
use Rattle.fil_loops.proofs.ports.names_of.Given as goal

-- the full names so far
abbrev pub invariant-loop-key : goal.invariant-loop-key
invariant-loop-key l = l.full.items ≡ map full_of (take l.key-index l.keys)
