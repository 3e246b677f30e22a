use Rattle.std.proofs.Common.{◌≡◌, ◌-◌, ◌≤◌, ◌++◌, true, length, take}
use Rattle.hw_prims.specs.Table.{pins_of}
use Rattle.net_core.specs.PortList.{cell_ports}
use Rattle.net_core.specs.Rules.{port_names, are_new}
use Rattle.net_core.proofs.cells.add_cell_ports.Given as goal

-- the ports so far were new and were put last
abbrev pub invariant-loop-pin : goal.invariant-loop-pin
invariant-loop-pin l =
    (l.i ≤ length (pins_of l.prim))
    × (l.ports ≡ l.initial.ports ++ take l.i (cell_ports l.prim l.cell))
    × (are_new (port_names l.initial.ports) (port_names (take l.i (cell_ports l.prim l.cell))) ≡ true)

abbrev pub decreases-loop-pin : goal.decreases-loop-pin
decreases-loop-pin l = length (pins_of l.prim) - l.i
