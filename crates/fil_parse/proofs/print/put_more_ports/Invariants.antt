use Rattle.std.proofs.Common.{◌≡◌, ◌++◌, take, codes}
use Rattle.std.specs.List.{flat_map}
use Rattle.fil_ast.specs.Tree.{port_tree}
use Rattle.fil_parse.specs.Layout.{port_text}
use Rattle.fil_parse.proofs.print.put_more_ports.Given as goal

abbrev pub invariant-loop-port : goal.invariant-loop-port
invariant-loop-port l = l.out.items ≡ l.initial.out.items ++ flat_map (λ x. codes ", " ++ port_text (port_tree l.names x)) (take l.port-index l.ports)
