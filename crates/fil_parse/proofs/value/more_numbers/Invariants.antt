use Rattle.std.proofs.Common.{◌≡◌, ◌-◌, length, [], ◌∷◌}
use Rattle.hw_grammar.specs.Reading.{with_front, times, many}
use Rattle.hw_grammar.specs.declared.sort.Sort.TheVariants.{Comma}
use Rattle.fil_parse.specs.inside.Reading.{more_number_at}
use Rattle.fil_parse.proofs.value.more_numbers.Given as goal

abbrev pub invariant-loop : goal.invariant-loop
invariant-loop l = with_front (l.all.items) (times (Comma ∷ []) (more_number_at) (length l.ts - l.counter) l.rest) ≡ with_front (l.fn.front.items) (many (Comma ∷ []) (more_number_at) l.ts)
