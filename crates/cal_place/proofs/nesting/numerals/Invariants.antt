use Rattle.cal_place.specs.inside.Entries.{AreNumerals}
use Rattle.cal_place.proofs.nesting.numerals.Given as goal

abbrev pub invariant-loop-number : goal.invariant-loop-number
invariant-loop-number l = AreNumerals l.number l.names
