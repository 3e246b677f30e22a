use Rattle.std.proofs.Common.{◌≡◌, List, map, take}
use Rattle.hw_names.specs.Name.{Text}
use Rattle.cal_ast.specs.Tree.{group_tree}
use Rattle.cal_group.proofs.CountLemmas.{counted}
use Rattle.cal_group.proofs.expand.count_group_items.Given as goal

-- the items of the groups so far
abbrev pub invariant-loop-group : goal.invariant-loop-group
invariant-loop-group l = (names : List Text) → l.count ≡ counted (map (group_tree names) (take l.group-index l.groups))
