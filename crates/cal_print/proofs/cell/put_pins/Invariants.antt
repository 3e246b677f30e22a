use Rattle.std.proofs.Common.{◌≡◌, ◌++◌, take, codes}
use Rattle.std.specs.List.{flat_map}
use Rattle.cal_ast.specs.Tree.{pin_tree}
use Rattle.cal_print.specs.Layout.{pin_text}
use Rattle.cal_print.proofs.cell.put_pins.Given as goal

abbrev pub invariant-loop-pin : goal.invariant-loop-pin
invariant-loop-pin l = l.out.items ≡ l.initial.out.items ++ flat_map (λ x. codes ", " ++ pin_text (pin_tree l.names x)) (take l.pin-index l.others)
