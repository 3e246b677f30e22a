use Rattle.std.proofs.Common.{◌≡◌, ◌-◌, length, [], ◌∷◌, map}
use Rattle.hw_grammar.specs.Reading.{with_front, list_tail_times, list_tail}
use Rattle.hw_grammar.specs.declared.sort.Sort.TheVariants.{Comma, At}
use Rattle.fil_parse.specs.inside.Reading.{input_at}
use Rattle.fil_parse.specs.inside.Inputs.{input_tree}
use Rattle.fil_parse.proofs.port.more_inputs.Given as goal

abbrev pub invariant-loop : goal.invariant-loop
invariant-loop g l = with_front (map (input_tree g.names) l.all.items) (list_tail_times Comma (At ∷ []) (input_at g.names) (length l.ts - l.counter) l.rest) ≡ with_front (map (input_tree g.names) l.fn.front.items) (list_tail Comma (At ∷ []) (input_at g.names) l.ts)

abbrev pub ghost-read_input : goal.ghost-read_input
ghost-read_input g a = g.names
