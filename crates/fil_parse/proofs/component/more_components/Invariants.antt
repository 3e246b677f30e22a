use Rattle.std.proofs.Common.{◌≡◌, ◌-◌, length, [], ◌∷◌, map}
use Rattle.hw_grammar.specs.Reading.{with_front, times, many}
use Rattle.hw_grammar.specs.declared.sort.Sort.TheVariants.{Comp}
use Rattle.fil_parse.specs.inside.Reading.{component_at}
use Rattle.fil_ast.specs.Tree.{component_tree}
use Rattle.fil_parse.proofs.component.more_components.Given as goal

abbrev pub invariant-loop : goal.invariant-loop
invariant-loop g l = with_front (map (component_tree g.names) l.all.items) (times (Comp ∷ []) (component_at g.names) (length l.ts - l.counter) l.rest) ≡ with_front (map (component_tree g.names) l.fn.front.items) (many (Comp ∷ []) (component_at g.names) l.ts)

abbrev pub ghost-read_component : goal.ghost-read_component
ghost-read_component g a = g.names
