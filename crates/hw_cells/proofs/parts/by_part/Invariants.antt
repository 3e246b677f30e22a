use Rattle.std.proofs.Common.{take}
use Rattle.hw_cells.proofs.PartLemmas.{ArePlaced}
use Rattle.hw_cells.proofs.parts.by_part.Given as goal

abbrev pub invariant-loop-number : goal.invariant-loop-number
invariant-loop-number l = ArePlaced l.cells (take l.number-index l.numbers) l.parts.keys l.entries.items
