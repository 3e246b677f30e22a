use Rattle.std.proofs.Common.{List, drop}
use Rattle.hw_names.specs.Name.{Text}
use Rattle.cal_lower.proofs.SizeLemmas.{OverSoFar}
use Rattle.cal_lower.proofs.sizes.+is_over.Given as goal

abbrev pub invariant-are_over-loop-statement : goal.invariant-are_over-loop-statement
invariant-are_over-loop-statement l = (names : List Text) → OverSoFar names l.statements (drop l.statement-index l.statements)
