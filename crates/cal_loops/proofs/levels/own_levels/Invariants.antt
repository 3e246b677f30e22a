use Rattle.cal_place.specs.Around.{comp_at}
use Rattle.cal_loops.proofs.CellPortLemmas.{AreKept}
use Rattle.cal_loops.proofs.levels.own_levels.Given as goal

-- those of the ports so far
abbrev pub invariant-loop-number : goal.invariant-loop-number
invariant-loop-number l = AreKept (comp_at l.place) l.ports.keys l.levels l.number l.own.items
