use Rattle.std.proofs.Common.{List, drop}
use Rattle.hw_names.specs.Name.{Text}
use Rattle.cal_lower.proofs.SizeLemmas.{LastSoFar}
use Rattle.cal_lower.proofs.sizes.last_part.Given as goal

abbrev pub invariant-loop-statement : goal.invariant-loop-statement
invariant-loop-statement l = (names : List Text) → LastSoFar names l.number l.statements l.last l.next (drop l.statement-index l.statements)
