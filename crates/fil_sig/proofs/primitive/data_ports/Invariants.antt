use Rattle.std.proofs.Common.{◌≡◌, take, drop, map}
use Rattle.std.specs.List.{filter}
use Rattle.hw_prims.specs.Filament.{is_data_pin}
use Rattle.hw_prims.specs.Table.{pins_of}
use Rattle.fil_sig.specs.inside.Kinds.{port_in}
use Rattle.fil_sig.specs.Seen.{seen_offset, seen_port}
use Rattle.fil_sig.proofs.primitive.data_ports.Given as goal

-- the data ports among the pins so far
abbrev pub invariant-loop-i : goal.invariant-loop-i
invariant-loop-i l =
    map seen_port l.ports.items ≡ map (port_in (seen_offset l.from) (seen_offset l.to)) (filter is_data_pin (take l.i (drop l.first (pins_of l.prim))))
