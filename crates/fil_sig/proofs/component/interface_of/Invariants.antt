use Rattle.std.proofs.Common.{◌≡◌, drop, map}
use Rattle.fil_ast.specs.Signature.{interface_of}
use Rattle.fil_ast.specs.Tree.{interface_tree}
use Rattle.fil_sig.proofs.component.interface_of.Given as goal

-- no interface port before this one is of the event
abbrev pub invariant-loop-go : goal.invariant-loop-go
invariant-loop-go l =
    interface_of (map (interface_tree l.names) (drop l.go-index l.gos)) l.event ≡ interface_of (map (interface_tree l.names) l.gos) l.event
