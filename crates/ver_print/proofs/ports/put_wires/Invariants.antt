use Rattle.std.proofs.Common.{◌≡◌, ◌++◌, drop, take}
use Rattle.std.specs.List.{flat_map}
use Rattle.net_core.specs.Netlist.{netlist_of}
use Rattle.net_core.specs.Rules.{ports_of}
use Rattle.ver_print.specs.Ports.{wire_line}
use Rattle.ver_print.proofs.ports.put_wires.Given as goal

-- the wires so far, past the module's own ports
abbrev pub invariant-loop-number : goal.invariant-loop-number
invariant-loop-number l = l.out.items ≡ l.initial.out.items ++ flat_map wire_line (drop l.first (take l.number (ports_of (netlist_of l.net))))
