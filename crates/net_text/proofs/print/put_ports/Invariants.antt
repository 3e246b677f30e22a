use Rattle.std.proofs.Common.{◌≡◌, ◌++◌, take}
use Rattle.std.specs.List.{flat_map}
use Rattle.net_core.specs.Netlist.{pin_of}
use Rattle.net_text.specs.Layout.{pin_text, ended}
use Rattle.net_text.proofs.print.put_ports.Given as goal

abbrev pub invariant-loop-port : goal.invariant-loop-port
invariant-loop-port l = l.out.items ≡ l.initial.out.items ++ flat_map (λ p. ended (l.keyword ++ pin_text (pin_of l.names p))) (take l.port-index l.ports)
