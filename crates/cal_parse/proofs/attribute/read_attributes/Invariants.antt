use Rattle.std.proofs.Common.{◌≡◌, ◌-◌, length, List, Bool, [], ◌∷◌}
use Rattle.hw_grammar.specs.Reading.{with_front, times, after, many}
use Rattle.hw_grammar.specs.declared.sort.Sort.TheVariants.{At}
use Rattle.cal_parse.specs.Grammar.{is_some_true}
use Rattle.cal_parse.specs.inside.Reading.{attribute_at}
use Rattle.cal_parse.proofs.attribute.read_attributes.Given as goal

abbrev pub invariant-loop : goal.invariant-loop
invariant-loop l = (front : List Bool) × (is_some_true front ≡ l.external) × (with_front front (times (At ∷ []) attribute_at (length l.ts - l.counter) l.rest) ≡ many (At ∷ []) attribute_at l.ts)
