use Rattle.std.proofs.Common.{◌≡◌, ◌-◌, length, [], ◌∷◌, map}
use Rattle.hw_grammar.specs.Reading.{with_front, list_tail_times, list_tail}
use Rattle.hw_grammar.specs.declared.sort.Sort.TheVariants.{Comma, Name, Literal}
use Rattle.fil_parse.specs.inside.Reading.{value_at}
use Rattle.fil_ast.specs.Tree.{value_tree}
use Rattle.fil_parse.proofs.value.more_values.Given as goal

abbrev pub invariant-loop : goal.invariant-loop
invariant-loop g l = with_front (map (value_tree g.names) l.all.items) (list_tail_times Comma (Name ∷ Literal ∷ []) (value_at g.names) (length l.ts - l.counter) l.rest) ≡ with_front (map (value_tree g.names) l.fn.front.items) (list_tail Comma (Name ∷ Literal ∷ []) (value_at g.names) l.ts)

abbrev pub ghost-read_value : goal.ghost-read_value
ghost-read_value g a = g.names
