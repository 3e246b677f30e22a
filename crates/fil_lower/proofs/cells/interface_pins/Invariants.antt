use Rattle.std.proofs.Common.{◌≡◌, List, All, map, take}
use Rattle.hw_names.specs.Name.{Text}
use Rattle.hw_prims.specs.Table.{pin}
use Rattle.cal_ast.specs.Numbers.{PinHasNumber}
use Rattle.cal_ast.specs.Tree.{pin_tree}
use Rattle.fil_ast.specs.Numbers.{InterfaceHasNumbers}
use Rattle.fil_ast.specs.Tree.{Interface, interface_tree}
use Rattle.fil_lower.proofs.cells.interface_pins.Given as goal

abbrev pub invariant-loop-go : goal.invariant-loop-go
invariant-loop-go l = record {
  pins : (names : List Text) → map (pin_tree names) l.pins.items ≡ map (λ (g : Interface). pin g.name g.width) (map (interface_tree names) (take l.go-index l.gos));
  numbers : (names : List Text) → All (InterfaceHasNumbers names) l.gos → All (PinHasNumber names) l.pins.items;
}
