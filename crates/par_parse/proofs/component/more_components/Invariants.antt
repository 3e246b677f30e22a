use Rattle.std.proofs.Common.{◌≡◌, ◌-◌, List, length, [], ◌∷◌, map}
use Rattle.hw_names.specs.Name.{Text}
use Rattle.hw_grammar.specs.Reading.{with_front, times, many}
use Rattle.hw_grammar.specs.declared.sort.Sort.TheVariants.{Comp}
use Rattle.par_parse.specs.Tree.{component_tree}
use Rattle.par_parse.specs.inside.Reading.{component_at}
use Rattle.par_parse.proofs.component.more_components.Given as goal

abbrev pub invariant-loop : goal.invariant-loop
invariant-loop l = (names : List Text) →
    with_front (map (component_tree names) l.all.items) (times (Comp ∷ []) (component_at names) (length l.ts - l.counter) l.rest)
    ≡ with_front (map (component_tree names) l.fn.front.items) (many (Comp ∷ []) (component_at names) l.ts)
