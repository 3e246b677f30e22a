use Rattle.std.proofs.Common.{◌≡◌, Some, map, take}
use Rattle.net_row.proofs.compile.port_slots.Given as goal

abbrev pub invariant-loop-port : goal.invariant-loop-port
invariant-loop-port l = take l.port l.ports.slots.items ≡ map Some l.slots.items
