use Rattle.std.proofs.Common.{List, All, take}
use Rattle.hw_names.specs.Name.{Text}
use Rattle.cal_ast.specs.Tree.{pin_tree}
use Rattle.cal_ast.specs.Typing.{HasWidth}
use Rattle.cal_ast.specs.declared.tree.CalPin.{CalPin}
use Rattle.cal_rules.proofs.typing.have_widths.Given as goal

abbrev pub invariant-loop-pin : goal.invariant-loop-pin
invariant-loop-pin l = (names : List Text) → All (λ (x : CalPin). HasWidth (pin_tree names x)) (take l.pin-index l.pins)
