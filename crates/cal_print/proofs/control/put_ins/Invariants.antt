use Rattle.std.proofs.Common.{◌≡◌, ◌++◌, take, codes}
use Rattle.std.specs.List.{flat_map}
use Rattle.cal_ast.specs.Tree.{in_tree}
use Rattle.cal_print.specs.Layout.{in_text}
use Rattle.cal_print.proofs.control.put_ins.Given as goal

abbrev pub invariant-loop-bind : goal.invariant-loop-bind
invariant-loop-bind l = l.out.items ≡ l.initial.out.items ++ flat_map (λ x. codes ", " ++ in_text (in_tree l.names x)) (take l.bind-index l.others)
