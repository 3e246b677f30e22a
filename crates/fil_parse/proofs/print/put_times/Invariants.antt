use Rattle.std.proofs.Common.{◌≡◌, ◌++◌, take, codes}
use Rattle.std.specs.List.{flat_map}
use Rattle.fil_ast.specs.Tree.{time_tree}
use Rattle.fil_parse.specs.Layout.{time_text}
use Rattle.fil_parse.proofs.print.put_times.Given as goal

abbrev pub invariant-loop-time : goal.invariant-loop-time
invariant-loop-time l = l.out.items ≡ l.initial.out.items ++ flat_map (λ x. codes ", " ++ time_text (time_tree l.names x)) (take l.time-index l.others)
