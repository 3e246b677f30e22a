use Rattle.net_core.specs.declared.net.NetPort.{NetPort}
use Rattle.net_lanes.specs.Narrow.{is_wide}
use Rattle.net_lanes.proofs.NarrowLemmas.{NoneUpto}
use Rattle.net_lanes.proofs.narrow.wide_port.Given as goal

-- none of the ports so far is too wide
abbrev pub invariant-loop-place : goal.invariant-loop-place
invariant-loop-place l = NoneUpto (λ (port : NetPort). is_wide port.width) l.place l.ports
