use Rattle.std.proofs.Common.{◌≡◌, ◌++◌, take, codes}
use Rattle.std.specs.List.{flat_map}
use Rattle.fil_ast.specs.Tree.{event_tree}
use Rattle.fil_parse.specs.Layout.{event_text}
use Rattle.fil_parse.proofs.print.put_events.Given as goal

abbrev pub invariant-loop-event : goal.invariant-loop-event
invariant-loop-event l = l.out.items ≡ l.initial.out.items ++ flat_map (λ x. codes ", " ++ event_text (event_tree l.names x)) (take l.event-index l.others)
