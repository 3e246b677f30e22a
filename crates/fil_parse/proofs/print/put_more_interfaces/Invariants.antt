use Rattle.std.proofs.Common.{◌≡◌, ◌++◌, take, codes}
use Rattle.std.specs.List.{flat_map}
use Rattle.fil_ast.specs.Tree.{interface_tree}
use Rattle.fil_parse.specs.Layout.{interface_text}
use Rattle.fil_parse.proofs.print.put_more_interfaces.Given as goal

abbrev pub invariant-loop-port : goal.invariant-loop-port
invariant-loop-port l = l.out.items ≡ l.initial.out.items ++ flat_map (λ x. codes ", " ++ interface_text (interface_tree l.names x)) (take l.port-index l.ports)
