use Rattle.fil_loops.proofs.CellPinLemmas.{AddsBelow}
use Rattle.fil_loops.proofs.cells.add_instances.Given as goal

-- the instances whose names end before this place
abbrev pub invariant-loop-place : goal.invariant-loop-place
invariant-loop-place l = AddsBelow l.ports.instances l.name l.node l.place l.fn.entries.items l.entries.items
