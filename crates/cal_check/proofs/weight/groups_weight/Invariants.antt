use Rattle.std.proofs.Common.{◌≡◌, List, map, sum_by, take}
use Rattle.hw_names.specs.Name.{Text}
use Rattle.net_core.specs.Weight.{saturated}
use Rattle.cal_ast.specs.Tree.{group_tree}
use Rattle.cal_check.specs.Weight.{group_weight}
use Rattle.cal_check.proofs.weight.groups_weight.Given as goal

abbrev pub invariant-loop-group : goal.invariant-loop-group
invariant-loop-group l = (names : List Text) → l.weight ≡ saturated (sum_by group_weight (take l.group-index (map (group_tree names) l.groups)))
