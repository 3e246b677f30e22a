use Rattle.std.proofs.Common.{◌≡◌, ◌++◌, take}
use Rattle.std.specs.List.{flat_map}
use Rattle.fil_ast.specs.Tree.{statement_tree}
use Rattle.fil_parse.specs.Layout.{line_text}
use Rattle.fil_parse.proofs.print.put_lines.Given as goal

abbrev pub invariant-loop-stmt : goal.invariant-loop-stmt
invariant-loop-stmt l = l.out.items ≡ l.initial.out.items ++ flat_map (λ x. line_text (statement_tree l.names x)) (take l.stmt-index l.body)
