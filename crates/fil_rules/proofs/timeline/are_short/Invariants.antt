use Rattle.std.proofs.Common.{All, take}
use Rattle.fil_ast.specs.Timeline.{IsShort}
use Rattle.fil_ast.specs.Tree.{component_tree, port_tree}
use Rattle.fil_ast.specs.declared.tree.FilPort.{FilPort}
use Rattle.fil_rules.proofs.timeline.are_short.Given as goal

-- the ports so far are short
abbrev pub invariant-loop-port : goal.invariant-loop-port
invariant-loop-port l = All (λ (port : FilPort). IsShort (component_tree l.names l.comp) (port_tree l.names port)) (take l.port-index l.ports)
