use Rattle.hw_bits.specs.Values.{values_of}
use Rattle.net_sim.specs.Evaluated.{AreMoved}
use Rattle.net_sim.proofs.evaluate.step_cells.Given as goal

abbrev pub invariant-loop-number : goal.invariant-loop-number
invariant-loop-number l = AreMoved l.cells (values_of l.values) l.number l.initial.states l.states
