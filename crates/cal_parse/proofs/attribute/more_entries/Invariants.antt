use Rattle.std.proofs.Common.{◌≡◌, ◌-◌, length, List, Bool, [], ◌∷◌}
use Rattle.hw_grammar.specs.Reading.{with_front, times, after, many}
use Rattle.hw_grammar.specs.declared.sort.Sort.TheVariants.{Comma}
use Rattle.cal_parse.specs.Grammar.{is_some_true}
use Rattle.cal_parse.specs.inside.Reading.{angle_entry_at}
use Rattle.cal_parse.proofs.attribute.more_entries.Given as goal

abbrev pub invariant-loop : goal.invariant-loop
invariant-loop l = (front : List Bool) × (is_some_true front ≡ l.external) × (with_front front (times (Comma ∷ []) (after Comma angle_entry_at) (length l.ts - l.counter) l.rest) ≡ many (Comma ∷ []) (after Comma angle_entry_at) l.ts)
