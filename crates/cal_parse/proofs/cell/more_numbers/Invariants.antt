use Rattle.std.proofs.Common.{◌≡◌, ◌-◌, List, length, [], ◌∷◌, map}
use Rattle.hw_names.specs.Name.{Text}
use Rattle.hw_grammar.specs.Reading.{with_front, times, many}
use Rattle.hw_grammar.specs.declared.sort.Sort.TheVariants.{Comma}
use Rattle.cal_parse.specs.inside.Reading.{more_number_at}
use Rattle.cal_parse.proofs.cell.more_numbers.Given as goal

abbrev pub invariant-loop : goal.invariant-loop
invariant-loop l = with_front l.all.items (times (Comma ∷ []) more_number_at (length l.ts - l.counter) l.rest) ≡ with_front l.fn.front.items (many (Comma ∷ []) more_number_at l.ts)
