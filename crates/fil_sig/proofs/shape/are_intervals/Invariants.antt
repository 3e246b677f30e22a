use Rattle.std.proofs.Common.{All, take}
use Rattle.fil_ast.specs.Tree.{port_tree}
use Rattle.fil_ast.specs.Typing.{IsInterval}
use Rattle.fil_sig.proofs.shape.are_intervals.Given as goal

-- the ports so far have intervals
abbrev pub invariant-loop-port : goal.invariant-loop-port
invariant-loop-port l = All (λ port. IsInterval (port_tree l.names port)) (take l.port-index l.ports)
