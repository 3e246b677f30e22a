use Rattle.std.proofs.Common.{◌≡◌, ◌-◌, List, length, [], ◌∷◌, map}
use Rattle.hw_names.specs.Name.{Text}
use Rattle.hw_grammar.specs.Reading.{with_front, list_tail_times, list_tail}
use Rattle.hw_grammar.specs.declared.sort.Sort.TheVariants.{Comma, At}
use Rattle.par_parse.specs.Tree.{port_tree}
use Rattle.par_parse.specs.inside.Reading.{port_at}
use Rattle.par_parse.proofs.port.more_ports.Given as goal

abbrev pub invariant-loop : goal.invariant-loop
invariant-loop l = (names : List Text) →
    with_front (map (port_tree names) l.all.items) (list_tail_times Comma (At ∷ []) (port_at names) (length l.ts - l.counter) l.rest)
    ≡ with_front (map (port_tree names) l.fn.front.items) (list_tail Comma (At ∷ []) (port_at names) l.ts)
