use Rattle.std.proofs.Common.{take}
use Rattle.std.specs.List.{AllZip}
use Rattle.cal_copy.specs.inside.Copies.{IsCellCopy}
use Rattle.cal_copy.proofs.copy.copy_cells.Given as goal

abbrev pub invariant-loop-cell : goal.invariant-loop-cell
invariant-loop-cell l = AllZip IsCellCopy (take l.cell-index l.cells) l.copies.items
