use Rattle.std.proofs.Common.{◌≡◌, false, map, take}
use Rattle.cal_ast.specs.Ports.{has_pin}
use Rattle.cal_ast.specs.Tree.{pin_tree}
use Rattle.cal_lower.proofs.bare.has_pin.Given as goal

-- none of the pins so far has the name
abbrev pub invariant-loop-pin : goal.invariant-loop-pin
invariant-loop-pin l = has_pin (map (pin_tree l.names) (take l.pin-index l.pins)) l.name ≡ false
