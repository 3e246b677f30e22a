use Rattle.net_sim.proofs.WireLemmas.{cells_more, cells_all}
use Rattle.net_sim.proofs.wires.add_cells_reads.Goals as goal

pub loop-cell-preserved : goal.loop-cell-preserved
loop-cell-preserved c = λ n are.
    cells_more n c.args.cells.now c.loop-cell.cell-index _ c.args.entries.now.items c.loop-cell.entries.items c.add_cell_reads.new.entries.items c.loop-cell-test.true are (c.loop-cell.invariant n are) c.in_ok-add_cell_reads.ensures

pub returns : goal.returns
returns c = λ n are.
    cells_all n c.args.cells.now c.loop-cell.cell-index c.args.entries.now.items c.loop-cell.entries.items c.loop-cell-test.false are (c.loop-cell.invariant n are)
