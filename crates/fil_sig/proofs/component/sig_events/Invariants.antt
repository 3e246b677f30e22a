use Rattle.std.proofs.Common.{◌≡◌, take, map}
use Rattle.fil_ast.specs.Signature.{sig_event}
use Rattle.fil_ast.specs.Tree.{event_tree, interface_tree}
use Rattle.fil_sig.specs.Seen.{seen_event}
use Rattle.fil_sig.proofs.component.sig_events.Given as goal

-- the events so far are made
abbrev pub invariant-loop-event : goal.invariant-loop-event
invariant-loop-event l =
    map seen_event l.made.items ≡ map (sig_event (map (interface_tree l.names) l.gos)) (map (event_tree l.names) (take l.event-index l.events))
