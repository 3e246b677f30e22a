use Rattle.std.proofs.Common.{◌≡◌, List, map, sum_by, take}
use Rattle.hw_names.specs.Name.{Text}
use Rattle.net_core.specs.Weight.{saturated}
use Rattle.cal_ast.specs.Tree.{done_tree}
use Rattle.cal_check.specs.Weight.{done_weight}
use Rattle.cal_check.proofs.weight.dones_weight.Given as goal

abbrev pub invariant-loop-done : goal.invariant-loop-done
invariant-loop-done l = (names : List Text) → l.weight ≡ saturated (sum_by done_weight (take l.done-index (map (done_tree names) l.dones)))
