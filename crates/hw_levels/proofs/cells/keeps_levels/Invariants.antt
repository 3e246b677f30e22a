use Rattle.std.proofs.Common.{take}
use Rattle.hw_levels.proofs.WalkLemmas.{HasWalked}
use Rattle.hw_levels.proofs.cells.keeps_levels.Given as goal

abbrev pub invariant-loop-port : goal.invariant-loop-port
invariant-loop-port l = HasWalked (take l.port-index l.ports) l.levels l.walk
