use Rattle.hw_cells.specs.inside.Told.{AddsAll}
use Rattle.hw_cells.proofs.ToldLemmas.{FirstMarked}
use Rattle.hw_cells.proofs.told_pairs.add_told_of.Given as goal

abbrev pub invariant-loop-place : goal.invariant-loop-place
invariant-loop-place l = AddsAll (FirstMarked l.words l.bit l.output l.inputs l.place) l.fn.entries.items l.entries.items
