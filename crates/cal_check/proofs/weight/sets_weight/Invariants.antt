use Rattle.std.proofs.Common.{◌≡◌, List, map, sum_by, take}
use Rattle.hw_names.specs.Name.{Text}
use Rattle.net_core.specs.Weight.{saturated}
use Rattle.cal_ast.specs.Tree.{assignment_tree}
use Rattle.cal_check.specs.Weight.{assignment_weight}
use Rattle.cal_check.proofs.weight.sets_weight.Given as goal

abbrev pub invariant-loop-set : goal.invariant-loop-set
invariant-loop-set l = (names : List Text) → l.weight ≡ saturated (sum_by assignment_weight (take l.set-index (map (assignment_tree names) l.sets)))
