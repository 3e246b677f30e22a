use Rattle.std.proofs.Common.{◌≡◌, ◌++◌, drop, map}
use Rattle.net_core.specs.Netlist.{set_of}
use Rattle.ver_print.specs.inside.Drivers.{picked}
use Rattle.ver_print.specs.Values.{value_text}
use Rattle.ver_print.proofs.drives.put_value.Given as goal

-- what is there and the value of the assignments that are left are the whole value
abbrev pub invariant-loop-number : goal.invariant-loop-number
invariant-loop-number l =
    l.out.items ++ value_text l.width (map (set_of l.net.names) (picked l.net.sets.items (drop l.number-index l.numbers)))
    ≡ l.initial.out.items ++ value_text l.width (map (set_of l.net.names) (picked l.net.sets.items l.numbers))
