use Rattle.std.proofs.Common.{◌≡◌, ◌-◌, List, length, [], ◌∷◌, map}
use Rattle.hw_names.specs.Name.{Text}
use Rattle.hw_grammar.specs.Reading.{with_front, list_tail_times, list_tail}
use Rattle.hw_grammar.specs.declared.sort.Sort.TheVariants.{Comma, Name}
use Rattle.cal_ast.specs.Tree.{in_tree}
use Rattle.cal_parse.specs.inside.Reading.{in_binding_at}
use Rattle.cal_parse.proofs.binding.more_in_bindings.Given as goal

abbrev pub invariant-loop : goal.invariant-loop
invariant-loop l = (names : List Text) → with_front (map (in_tree names) l.all.items) (list_tail_times Comma (Name ∷ []) (in_binding_at names) (length l.ts - l.counter) l.rest)
    ≡ with_front (map (in_tree names) l.fn.front.items) (list_tail Comma (Name ∷ []) (in_binding_at names) l.ts)
