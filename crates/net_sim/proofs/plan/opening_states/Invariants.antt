use Rattle.std.proofs.Common.{take}
use Rattle.net_sim.specs.Compiled.{AreOpening}
use Rattle.net_sim.proofs.plan.opening_states.Given as goal

abbrev pub invariant-loop-cell : goal.invariant-loop-cell
invariant-loop-cell l = AreOpening (take l.cell-index l.cells) l.states.items
