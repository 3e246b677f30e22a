use Rattle.std.proofs.Common.{◌≡◌, ◌-◌, List, length, map}
use Rattle.hw_names.specs.Name.{Text}
use Rattle.hw_grammar.specs.Reading.{with_front, list_tail_times, list_tail}
use Rattle.hw_grammar.specs.declared.sort.Sort.TheVariants.{Comma}
use Rattle.par_parse.specs.Tree.{value_tree}
use Rattle.par_parse.specs.inside.Reading.{value_set, value_at}
use Rattle.par_parse.proofs.value.more_values.Given as goal

abbrev pub invariant-loop : goal.invariant-loop
invariant-loop l = (names : List Text) →
    with_front (map (value_tree names) l.all.items) (list_tail_times Comma value_set (value_at names) (length l.ts - l.counter) l.rest)
    ≡ with_front (map (value_tree names) l.fn.front.items) (list_tail Comma value_set (value_at names) l.ts)
