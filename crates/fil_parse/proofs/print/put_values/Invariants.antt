use Rattle.std.proofs.Common.{◌≡◌, ◌++◌, take, codes}
use Rattle.std.specs.List.{flat_map}
use Rattle.fil_ast.specs.Tree.{value_tree}
use Rattle.fil_parse.specs.Layout.{value_text}
use Rattle.fil_parse.proofs.print.put_values.Given as goal

abbrev pub invariant-loop-value : goal.invariant-loop-value
invariant-loop-value l = l.out.items ≡ l.initial.out.items ++ flat_map (λ x. codes ", " ++ value_text (value_tree l.names x)) (take l.value-index l.others)
