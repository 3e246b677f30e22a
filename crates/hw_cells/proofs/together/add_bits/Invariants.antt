use Rattle.std.proofs.Common.{take}
use Rattle.hw_cells.proofs.TogetherLemmas.{AreGiven}
use Rattle.hw_cells.proofs.together.add_bits.Given as goal

abbrev pub invariant-loop-node : goal.invariant-loop-node
invariant-loop-node l = AreGiven l.word (take l.node-index l.nodes) l.fn.words l.words
