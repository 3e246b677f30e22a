use Rattle.std.proofs.Common.{◌≡◌, ◌++◌, take}
use Rattle.std.specs.List.{flat_map}
use Rattle.cal_ast.specs.Tree.{assignment_tree}
use Rattle.cal_print.specs.Layout.{line_text, assignment_text}
use Rattle.cal_print.proofs.group.put_assignments.Given as goal

abbrev pub invariant-loop-set : goal.invariant-loop-set
invariant-loop-set l = l.out.items ≡ l.initial.out.items ++ flat_map (λ x. line_text l.margin (assignment_text (assignment_tree l.names x))) (take l.set-index l.sets)
