use Rattle.std.proofs.Common.{◌≡◌, ◌++◌, take, codes}
use Rattle.std.specs.List.{flat_map}
use Rattle.cal_ast.specs.Tree.{done_tree}
use Rattle.cal_print.specs.Layout.{line_text, done_text}
use Rattle.cal_print.proofs.group.put_dones.Given as goal

abbrev pub invariant-loop-done : goal.invariant-loop-done
invariant-loop-done l = l.out.items ≡ l.initial.out.items ++ flat_map (λ x. line_text (codes "      ") (done_text (done_tree l.names x))) (take l.done-index l.dones)
