use Rattle.std.proofs.Common.{All, Contains, take}
use Rattle.hw_names.specs.Name.{text_of}
use Rattle.fil_ast.specs.declared.tree.FilPort.{FilPort}
use Rattle.fil_rules.proofs.connections.connects_all.Given as goal

-- the outputs so far are connected
abbrev pub invariant-loop-port : goal.invariant-loop-port
invariant-loop-port l = All (λ (p : FilPort). Contains l.connected (text_of l.names p.name)) (take l.port-index l.comp.outs.items)
