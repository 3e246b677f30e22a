use Rattle.std.proofs.Common.{◌≡◌, map, take}
use Rattle.cal_wires.specs.NodeOrder.{full_name_in}
use Rattle.cal_wires.proofs.ports.full_names.Given as goal

-- the full names of the keys so far
abbrev pub invariant-loop-key : goal.invariant-loop-key
invariant-loop-key l = l.full.items ≡ map full_name_in (take l.key-index l.keys)
