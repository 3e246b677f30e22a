use Rattle.std.proofs.Common.{◌≡◌, ◌-◌, length, List, [], ◌∷◌}
use Rattle.hw_grammar.specs.Reading.{with_front, times, many}
use Rattle.hw_grammar.specs.declared.sort.Sort.TheVariants.{Import}
use Rattle.par_parse.specs.inside.Reading.{import_at}
use Rattle.par_parse.proofs.component.after_imports.Given as goal

abbrev pub invariant-loop : goal.invariant-loop
invariant-loop l = (front : List (Unit {0})) × (with_front front (times (Import ∷ []) import_at (length l.ts - l.counter) l.rest) ≡ many (Import ∷ []) import_at l.ts)
