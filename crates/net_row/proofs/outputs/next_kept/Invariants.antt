use Rattle.net_row.proofs.NextLemmas.{AreNextOf}
use Rattle.net_row.proofs.outputs.next_kept.Given as goal

abbrev pub invariant-loop-cell : goal.invariant-loop-cell
invariant-loop-cell l = AreNextOf l.fn.steps l.steps l.ports.slots.items l.cells l.cell-index l.next.items
