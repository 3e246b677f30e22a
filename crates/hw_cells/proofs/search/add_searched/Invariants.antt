use Rattle.std.proofs.Common.{take}
use Rattle.hw_cells.specs.inside.Pairs.{AddsPairs}
use Rattle.hw_cells.proofs.search.add_searched.Given as goal

abbrev pub invariant-loop-start : goal.invariant-loop-start
invariant-loop-start l = AddsPairs l.reads (take l.start-index l.starts) l.fn.entries.items l.entries.items
