use Rattle.std.proofs.Common.{◌≡◌, true, map, take}
use Rattle.net_core.specs.PortList.{full_names}
use Rattle.net_core.specs.Rules.{port_names, are_new}
use Rattle.net_core.proofs.cells.are_new_pins.Given as goal

abbrev pub invariant-loop-pin : goal.invariant-loop-pin
invariant-loop-pin l =
    are_new (port_names l.ports) (take l.pin-index (full_names l.cell (map (λ pin. pin.now) l.pins))) ≡ true
