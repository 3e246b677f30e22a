use Rattle.std.proofs.Common.{◌≡◌, map, take}
use Rattle.std.specs.Prelude.{slice_index}
use Rattle.fil_loops.proofs.levels.own_levels.Given as goal

-- the levels of the ports so far
abbrev pub invariant-loop-port : goal.invariant-loop-port
invariant-loop-port l = l.found.items ≡ map (slice_index l.levels) (take l.port-index l.own)
