use Rattle.std.proofs.Common.{◌≡◌, ◌-◌, length, [], ◌∷◌, map}
use Rattle.hw_grammar.specs.Reading.{with_front, list_tail_times, list_tail}
use Rattle.hw_grammar.specs.declared.sort.Sort.TheVariants.{Comma, At}
use Rattle.fil_parse.specs.inside.Reading.{port_at}
use Rattle.fil_ast.specs.Tree.{port_tree}
use Rattle.fil_parse.proofs.port.more_ports.Given as goal

abbrev pub invariant-loop : goal.invariant-loop
invariant-loop g l = with_front (map (port_tree g.names) l.all.items) (list_tail_times Comma (At ∷ []) (port_at g.names) (length l.ts - l.counter) l.rest) ≡ with_front (map (port_tree g.names) l.fn.front.items) (list_tail Comma (At ∷ []) (port_at g.names) l.ts)

abbrev pub ghost-read_port : goal.ghost-read_port
ghost-read_port g a = g.names
