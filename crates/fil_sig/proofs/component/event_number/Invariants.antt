use Rattle.std.proofs.Common.{◌≡◌, ◌+◌, drop, map}
use Rattle.fil_ast.specs.Signature.{event_number}
use Rattle.fil_ast.specs.Tree.{event_tree}
use Rattle.fil_sig.proofs.component.event_number.Given as goal

-- no event before this one has the name
abbrev pub invariant-loop-known : goal.invariant-loop-known
invariant-loop-known l =
    (l.number ≡ l.known-index)
    × (l.known-index + event_number (map (event_tree l.names) (drop l.known-index l.events)) l.text ≡ event_number (map (event_tree l.names) l.events) l.text)
