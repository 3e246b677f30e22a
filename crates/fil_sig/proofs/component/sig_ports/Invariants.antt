use Rattle.std.proofs.Common.{◌≡◌, take, map}
use Rattle.fil_ast.specs.Signature.{sig_port}
use Rattle.fil_ast.specs.Tree.{event_tree, port_tree}
use Rattle.fil_sig.specs.Seen.{seen_port}
use Rattle.fil_sig.proofs.component.sig_ports.Given as goal

-- the ports so far are made
abbrev pub invariant-loop-port : goal.invariant-loop-port
invariant-loop-port l =
    map seen_port l.made.items ≡ map (sig_port (map (event_tree l.names) l.events)) (map (port_tree l.names) (take l.port-index l.ports))
