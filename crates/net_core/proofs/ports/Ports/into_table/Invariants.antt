use Rattle.std.proofs.Common.{◌≡◌, take}
use Rattle.net_core.proofs.PortListLemmas.{numbered}
use Rattle.net_core.proofs.ports.Ports.into_table.Given as goal

abbrev pub invariant-loop-i : goal.invariant-loop-i
invariant-loop-i l = l.infos.items ≡ numbered 0 (take l.i l.port-items)
