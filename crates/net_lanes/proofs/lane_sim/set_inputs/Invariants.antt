use Rattle.hw_bits.specs.Values.{widths_of}
use Rattle.net_lanes.proofs.RowLemmas.{AreSetUpto}
use Rattle.net_lanes.proofs.lane_sim.set_inputs.Given as goal

abbrev pub invariant-loop-number : goal.invariant-loop-number
invariant-loop-number l = AreSetUpto (widths_of l.fn.held) l.lane l.inputs l.number l.held
