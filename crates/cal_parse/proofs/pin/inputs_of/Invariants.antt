use Rattle.std.proofs.Common.{◌≡◌, List, map, take}
use Rattle.hw_names.specs.Name.{Text}
use Rattle.cal_ast.specs.Tree.{pin_tree}
use Rattle.cal_parse.specs.Grammar.{inputs_from}
use Rattle.cal_parse.specs.inside.Pins.{meant_tree}
use Rattle.cal_parse.proofs.pin.inputs_of.Given as goal

abbrev pub invariant-loop-meant : goal.invariant-loop-meant
invariant-loop-meant l = (names : List Text) → map (pin_tree names) l.inputs.items ≡ inputs_from (map (meant_tree names) (take l.meant-index l.pins))
