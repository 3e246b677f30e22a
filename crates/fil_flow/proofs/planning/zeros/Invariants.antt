use Rattle.std.proofs.Common.{[], take}
use Rattle.std.specs.List.{AllZip}
use Rattle.fil_ast.specs.Tree.{Literal}
use Rattle.fil_ast.specs.declared.tree.FilPort.{FilPort}
use Rattle.fil_flow.specs.inside.Body.{IsSourceOf}
use Rattle.fil_flow.proofs.planning.zeros.Given as goal

abbrev pub invariant-loop-port : goal.invariant-loop-port
invariant-loop-port l = AllZip (λ (p : FilPort). IsSourceOf [] (Literal p.width 0)) (take l.port-index l.ports) l.found.items
