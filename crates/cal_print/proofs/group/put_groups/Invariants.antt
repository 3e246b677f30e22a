use Rattle.std.proofs.Common.{◌≡◌, ◌++◌, take, codes}
use Rattle.std.specs.List.{flat_map}
use Rattle.cal_ast.specs.Tree.{group_tree}
use Rattle.cal_print.specs.Layout.{group_text}
use Rattle.cal_print.proofs.group.put_groups.Given as goal

abbrev pub invariant-loop-group : goal.invariant-loop-group
invariant-loop-group l = l.out.items ≡ l.initial.out.items ++ flat_map (λ x. group_text (codes "    ") (group_tree l.names x)) (take l.group-index l.groups)
