use Rattle.std.proofs.Common.{◌≡◌, length}
use Rattle.hw_grammar.specs.Sort.{has_sort}
use Rattle.hw_grammar.proofs.reading.is_among.Given as goal

abbrev pub invariant-loop-rest : goal.invariant-loop-rest
invariant-loop-rest l = has_sort l.sort l.rest ≡ has_sort l.sort l.sorts

abbrev pub decreases-loop-rest : goal.decreases-loop-rest
decreases-loop-rest l = length l.rest
