use Rattle.hw_cells.proofs.PortLemmas.{AreSoFar}
use Rattle.hw_cells.proofs.ports_alone.pins_between.Given as goal

abbrev pub invariant-loop-port : goal.invariant-loop-port
invariant-loop-port l = AreSoFar l.nodes l.start l.end l.port l.pins.items
