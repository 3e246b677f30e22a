use Rattle.hw_cells.specs.inside.Told.{AddsAll}
use Rattle.hw_cells.proofs.ToldLemmas.{FirstRead}
use Rattle.hw_cells.proofs.told_pairs.add_told_pairs.Given as goal

abbrev pub invariant-loop-bit : goal.invariant-loop-bit
invariant-loop-bit l = AddsAll (FirstRead l.cell l.bit) l.fn.entries.items l.entries.items
