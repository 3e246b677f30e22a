use Rattle.std.proofs.Common.{◌≡◌, take}
use Rattle.std.specs.List.{sum}
use Rattle.filc_report.specs.Sums.{wrapped}
use Rattle.filc_report.proofs.sums.sum_ports.Given as goal

-- the values so far were added
abbrev pub invariant-loop-port : goal.invariant-loop-port
invariant-loop-port l = l.total ≡ wrapped (sum (take l.port l.sim.values))
