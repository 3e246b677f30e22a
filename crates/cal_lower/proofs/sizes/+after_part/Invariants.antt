use Rattle.std.proofs.Common.{List, drop}
use Rattle.hw_names.specs.Name.{Text}
use Rattle.cal_lower.proofs.SizeLemmas.{CountsTo}
use Rattle.cal_lower.proofs.sizes.+after_part.Given as goal

abbrev pub invariant-after_parts-loop-statement : goal.invariant-after_parts-loop-statement
invariant-after_parts-loop-statement l = (names : List Text) → CountsTo names l.number l.statements l.next (drop l.statement-index l.statements)
