use Rattle.std.proofs.Common.{◌≡◌, ◌-◌, length, [], ◌∷◌, map}
use Rattle.hw_grammar.specs.Reading.{with_front, times, many}
use Rattle.hw_grammar.specs.declared.sort.Sort.TheVariants.{Comma}
use Rattle.fil_parse.specs.inside.Reading.{more_time_at}
use Rattle.fil_ast.specs.Tree.{time_tree}
use Rattle.fil_parse.proofs.value.more_times.Given as goal

abbrev pub invariant-loop : goal.invariant-loop
invariant-loop g l = with_front (map (time_tree g.names) l.all.items) (times (Comma ∷ []) (more_time_at g.names) (length l.ts - l.counter) l.rest) ≡ with_front (map (time_tree g.names) l.fn.front.items) (many (Comma ∷ []) (more_time_at g.names) l.ts)

abbrev pub ghost-read_more_time : goal.ghost-read_more_time
ghost-read_more_time g a = g.names
