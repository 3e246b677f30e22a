use Rattle.std.proofs.Common.{◌≡◌, false, map, take}
use Rattle.cal_ast.specs.Ports.{has_pin}
use Rattle.cal_ast.specs.Tree.{pin_tree}
use Rattle.cal_place.proofs.signature.has_pin.Given as goal

abbrev pub invariant-loop-pin : goal.invariant-loop-pin
invariant-loop-pin l = has_pin (take l.pin-index (map (pin_tree l.names) l.pins)) l.name ≡ false
