use Rattle.cal_place.specs.Around.{comp_at}
use Rattle.cal_loops.proofs.InsideLemmas.{AreNodesTo}
use Rattle.cal_loops.proofs.cells.inside.own_nodes.Given as goal

-- the nodes of so many ports
abbrev pub invariant-loop-number : goal.invariant-loop-number
invariant-loop-number l = AreNodesTo (comp_at l.place) l.ports.keys l.number l.nodes.items
