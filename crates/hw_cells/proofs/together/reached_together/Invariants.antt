use Rattle.hw_cells.proofs.TogetherLemmas.{ArePassedFrom}
use Rattle.hw_cells.proofs.together.reached_together.Given as goal

abbrev pub invariant-loop-place : goal.invariant-loop-place
invariant-loop-place l = ArePassedFrom l.place l.reads l.order l.starts l.words.items
