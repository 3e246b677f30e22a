use Rattle.std.proofs.Common.{◌≡◌, map, take}
use Rattle.fil_sig.specs.Seen.{seen_port}
use Rattle.fil_sig.specs.declared.time_sig.SigPort.{SigPort}
use Rattle.filc_report.specs.Intervals.{port_interval}
use Rattle.filc_report.proofs.view.intervals_of.Given as goal

-- the intervals of the ports so far
abbrev pub invariant-loop-port : goal.invariant-loop-port
invariant-loop-port l = l.intervals.items ≡ map (λ (p : SigPort). port_interval (seen_port p)) (take l.port-index l.ports)
