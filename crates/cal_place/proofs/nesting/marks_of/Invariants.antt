use Rattle.cal_place.proofs.MarkLemmas.{AreMarkedSoFar}
use Rattle.cal_place.proofs.nesting.marks_of.Given as goal

abbrev pub invariant-loop-port : goal.invariant-loop-port
invariant-loop-port l = AreMarkedSoFar l.number l.reached l.port-index l.count l.marks.items
