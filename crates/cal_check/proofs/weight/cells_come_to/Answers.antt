use Rattle.std.proofs.Common.{◌<◌, ◌≤◌, length, arith}
use Rattle.cal_check.proofs.WeightLemmas.{cells_all, cells_none, cells_step}
use Rattle.cal_check.proofs.weight.cells_come_to.Goals as goal

pub part_comes_to-requires : goal.part_comes_to-requires
part_comes_to-requires c =
    let within : c.loop-cell.cell-index < length c.args.made.now = omega arith in
    c.requires c.loop-cell.cell-index _ within

pub loop-cell-init : goal.loop-cell-init
loop-cell-init c = λ design own n comp at are parts. cells_none design own

pub loop-cell-preserved : goal.loop-cell-preserved
loop-cell-preserved c = λ design own n comp at are parts.
    let within : c.loop-cell.cell-index < length c.args.made.now = omega arith in
    cells_step design own n comp c.args.made.now c.args.whole.now c.loop-cell.cell-index _ c.loop-cell.sum c.part_comes_to.result c.saturating_add-sum.result at are parts within (c.loop-cell.invariant design own n comp at are parts) c.part_comes_to.ensures c.saturating_add-sum.ensures

pub returns : goal.returns
returns c = λ design own n comp at are parts.
    let end : length comp.cells ≤ c.loop-cell.cell-index = omega (arith, are.sized) in
    cells_all design own comp.cells c.loop-cell.cell-index c.loop-cell.sum end (c.loop-cell.invariant design own n comp at are parts)
