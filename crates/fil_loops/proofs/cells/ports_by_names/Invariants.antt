use Rattle.fil_loops.proofs.CellPinLemmas.{AreInstancePortsBelow}
use Rattle.fil_loops.proofs.cells.ports_by_names.Given as goal

-- those of the nodes so far
abbrev pub invariant-loop-node : goal.invariant-loop-node
invariant-loop-node l = AreInstancePortsBelow l.ports l.node l.entries.items
