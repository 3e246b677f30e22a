use Rattle.std.proofs.Common.{◌≡◌, ◌-◌, length, [], ◌∷◌, map}
use Rattle.hw_grammar.specs.Reading.{with_front, times, many}
use Rattle.hw_grammar.specs.declared.sort.Sort.TheVariants.{Comma}
use Rattle.fil_parse.specs.inside.Reading.{more_event_at}
use Rattle.fil_ast.specs.Tree.{event_tree}
use Rattle.fil_parse.proofs.port.more_events.Given as goal

abbrev pub invariant-loop : goal.invariant-loop
invariant-loop g l = with_front (map (event_tree g.names) l.all.items) (times (Comma ∷ []) (more_event_at g.names) (length l.ts - l.counter) l.rest) ≡ with_front (map (event_tree g.names) l.fn.front.items) (many (Comma ∷ []) (more_event_at g.names) l.ts)

abbrev pub ghost-read_more_event : goal.ghost-read_more_event
ghost-read_more_event g a = g.names
