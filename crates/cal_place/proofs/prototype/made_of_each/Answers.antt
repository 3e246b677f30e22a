use Rattle.std.proofs.Common.{◌≤◌, length, map, refl, arith}
use Rattle.std.proofs.lemmas.List.{length-map}
use Rattle.cal_ast.specs.Numbers.{CellHasNumbers}
use Rattle.cal_ast.specs.Tree.{cell_tree}
use Rattle.cal_place.proofs.ListLemmas.{All-item, at_mapped}
use Rattle.cal_place.proofs.TableLemmas.{made_all, made_more, made_none}
use Rattle.cal_place.proofs.prototype.made_of_each.Goals as goal

pub made_of-requires : goal.made_of-requires
made_of-requires c =
    let cells = c.args.cells.now in
    All-item (CellHasNumbers c.args.names.now) cells cells c.loop-cell.cell-index c.cell-item.result refl c.loop-cell-test.true c.cell-item.is c.requires

pub loop-cell-init : goal.loop-cell-init
loop-cell-init c design shows = made_none design _ c.new-made.ensures.items

pub loop-cell-preserved : goal.loop-cell-preserved
loop-cell-preserved c design shows =
    let tree = cell_tree c.args.names.now in
    let cells = c.args.cells.now in
    let n = c.loop-cell.cell-index in
    let at = at_mapped tree cells cells n c.cell-item.result refl c.loop-cell-test.true c.cell-item.is in
    made_more design (map tree cells) c.loop-cell.made.items _ n (tree c.cell-item.result) c.made_of.result at c.in_ok-push.ensures.items (c.made_of.ensures design shows) (c.loop-cell.invariant design shows)

pub returns : goal.returns
returns c design shows =
    let tree = cell_tree c.args.names.now in
    let cells = c.args.cells.now in
    let n = c.loop-cell.cell-index in
    let end : length (map tree cells) ≤ n = omega (arith, c.loop-cell-test.false, length-map cells tree) in
    made_all design (map tree cells) n c.loop-cell.made.items end (c.loop-cell.invariant design shows)
