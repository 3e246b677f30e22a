use Rattle.std.proofs.Common.{map, take}
use Rattle.cal_ast.specs.Items.{TheAssignment}
use Rattle.cal_ast.specs.Tree.{assignment_tree}
use Rattle.cal_place.specs.Around.{names_at}
use Rattle.cal_rules.specs.inside.Walks.{Passes}
use Rattle.cal_rules.proofs.component.judge_sets.Given as goal

abbrev pub invariant-loop-set : goal.invariant-loop-set
invariant-loop-set l = Passes l.place (take l.set-index (map TheAssignment (map (assignment_tree (names_at l.place)) l.sets))) l.fn.walk l.walk
