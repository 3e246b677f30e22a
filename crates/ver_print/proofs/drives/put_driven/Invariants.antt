use Rattle.std.proofs.Common.{◌≡◌, ◌++◌, filter, take}
use Rattle.std.specs.List.{flat_map}
use Rattle.net_core.specs.Netlist.{netlist_of}
use Rattle.net_core.specs.Rules.{PortLine, ports_of}
use Rattle.ver_print.specs.Values.{drive_line}
use Rattle.ver_print.proofs.drives.put_driven.Given as goal

abbrev pub invariant-loop-number : goal.invariant-loop-number
invariant-loop-number l =
    l.out.items ≡ l.initial.out.items ++ flat_map (drive_line (netlist_of l.net).sets) (filter (λ (p : PortLine). p.writable) (take l.number (ports_of (netlist_of l.net))))
