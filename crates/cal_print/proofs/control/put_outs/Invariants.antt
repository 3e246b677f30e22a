use Rattle.std.proofs.Common.{◌≡◌, ◌++◌, take, codes}
use Rattle.std.specs.List.{flat_map}
use Rattle.cal_ast.specs.Tree.{out_tree}
use Rattle.cal_print.specs.Layout.{out_text}
use Rattle.cal_print.proofs.control.put_outs.Given as goal

abbrev pub invariant-loop-bind : goal.invariant-loop-bind
invariant-loop-bind l = l.out.items ≡ l.initial.out.items ++ flat_map (λ x. codes ", " ++ out_text (out_tree l.names x)) (take l.bind-index l.others)
