use Rattle.std.proofs.Common.{◌≡◌, ◌+◌, List, length, map, take}
use Rattle.hw_names.specs.Name.{Text}
use Rattle.cal_ast.specs.Tree.{group_tree}
use Rattle.cal_walk.proofs.CountLemmas.{counted}
use Rattle.cal_walk.proofs.planning.items_before_control.Given as goal

-- the items of the groups so far are counted
abbrev pub invariant-loop-group : goal.invariant-loop-group
invariant-loop-group l =
    (names : List Text) → l.items ≡ 1 + length l.comp.cells.items + length l.comp.sets.items + counted (map (group_tree names) (take l.group-index l.group-items))
