use Rattle.std.proofs.Common.{List, filter, map, take, sym, subst}
use Rattle.hw_prims.specs.Table.{is_primitive}
use Rattle.cal_ast.specs.Tree.{CellDef, cell_tree}
use Rattle.net_core.specs.Netlist.{CellLine}
use Rattle.cal_ast.specs.Keeping.{flat_cell}
use Rattle.net_flat.specs.inside.StandFor.{AreCells}
use Rattle.net_flat.proofs.StandLemmas.{Keeps-then}
use Rattle.net_flat.proofs.TakeLemmas.{filter_one}
use Rattle.net_flat.proofs.lines.cells_at.Goals as goal

pub loop-cell-preserved : goal.loop-cell-preserved
loop-cell-preserved c =
    let cells = c.args.cells.now in
    let i = c.loop-cell.cell-index in
    let names = c.put_cell.new.names in (
      Keeps-then c.args.names.now c.loop-cell.names names c.loop-cell.invariant.0 c.put_cell.ensures.kept,
      λ path at.
          let more = filter_one (cell_tree c.args.source.now) cells i c.cell-item.result c.loop-cell-test.true c.cell-item.is (flat_cell path) (λ (cell : CellDef). is_primitive cell.made) in
          subst (λ (ls : List CellLine). AreCells names ls c.put_cell.new.found.items) (sym more)
          (c.in_ok-put_cell.ensures.cells path (map (flat_cell path) (filter (λ (cell : CellDef). is_primitive cell.made) (map (cell_tree c.args.source.now) (take i cells)))) at (c.loop-cell.invariant.1 path at)),
    )
