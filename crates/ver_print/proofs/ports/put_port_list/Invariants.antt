use Rattle.std.proofs.Common.{◌≡◌, ◌++◌, take}
use Rattle.std.specs.List.{flat_map}
use Rattle.net_core.specs.Netlist.{pin_of}
use Rattle.ver_print.specs.Ports.{port_text}
use Rattle.ver_print.proofs.ports.put_port_list.Given as goal

abbrev pub invariant-loop-port : goal.invariant-loop-port
invariant-loop-port l = l.out.items ≡ l.initial.out.items ++ flat_map (λ p. port_text l.direction (pin_of l.names p)) (take l.port-index l.ports)
