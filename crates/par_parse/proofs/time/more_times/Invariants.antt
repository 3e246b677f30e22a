use Rattle.std.proofs.Common.{◌≡◌, ◌-◌, List, length, [], ◌∷◌, map}
use Rattle.hw_names.specs.Name.{Text}
use Rattle.hw_grammar.specs.Reading.{with_front, times, many}
use Rattle.hw_grammar.specs.declared.sort.Sort.TheVariants.{Comma}
use Rattle.par_parse.specs.Tree.{time_tree}
use Rattle.par_parse.specs.inside.Reading.{more_time_at}
use Rattle.par_parse.proofs.time.more_times.Given as goal

abbrev pub invariant-loop : goal.invariant-loop
invariant-loop l = (names : List Text) →
    with_front (map (time_tree names) l.all.items) (times (Comma ∷ []) (more_time_at names) (length l.ts - l.counter) l.rest)
    ≡ with_front (map (time_tree names) l.fn.front.items) (many (Comma ∷ []) (more_time_at names) l.ts)
