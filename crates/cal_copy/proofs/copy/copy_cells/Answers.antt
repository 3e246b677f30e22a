use Rattle.std.proofs.lemmas.List.Elements.{all_zip_more}
use Rattle.cal_copy.specs.inside.Copies.{IsCellCopy}
use Rattle.cal_copy.proofs.copy.copy_cells.Goals as goal

pub loop-cell-preserved : goal.loop-cell-preserved
loop-cell-preserved c =
    rw c.in_ok-push.ensures.items
    (all_zip_more IsCellCopy c.args.cells.now c.loop-cell.copies.items c.loop-cell.cell-index c.cell-item.result c.in_ok-copy_cell.field-0
    c.loop-cell-test.true c.cell-item.is c.loop-cell.invariant c.in_ok-copy_cell.ensures)
