use Rattle.std.proofs.Common.{◌≡◌, ◌++◌, List, All, map, take}
use Rattle.hw_names.specs.Name.{Text}
use Rattle.hw_prims.specs.Table.{pin}
use Rattle.cal_ast.specs.Numbers.{PinHasNumber}
use Rattle.cal_ast.specs.Tree.{pin_tree}
use Rattle.fil_ast.specs.Numbers.{PortHasNumbers}
use Rattle.fil_ast.specs.Tree.{DataPort, port_tree}
use Rattle.fil_lower.proofs.cells.push_pins.Given as goal

abbrev pub invariant-loop-port : goal.invariant-loop-port
invariant-loop-port l = record {
  pins : (names : List Text) → map (pin_tree names) l.pins.items ≡ map (pin_tree names) l.fn.pins.items ++ map (λ (p : DataPort). pin p.name p.width) (map (port_tree names) (take l.port-index l.ports));
  numbers : (names : List Text) → All (PortHasNumbers names) l.ports → All (PinHasNumber names) l.fn.pins.items → All (PinHasNumber names) l.pins.items;
}
