use Rattle.std.proofs.Common.{◌≡◌, ◌≤◌, length, map, slice_get, Some, refl, ap, ◌∙◌, arith}
use Rattle.std.proofs.lemmas.List.{length-map}
use Rattle.hw_names.proofs.NameLemmas.{text_of-slice_get}
use Rattle.cal_ast.specs.Naming.{cell_names}
use Rattle.cal_ast.specs.Numbers.{CellHasNumbers}
use Rattle.cal_ast.specs.Tree.{CellDef, cell_tree}
use Rattle.cal_place.proofs.FirstLemmas.{firsts_all, firsts_more}
use Rattle.cal_place.proofs.FoundLemmas.{to_map}
use Rattle.cal_place.proofs.ListLemmas.{All-item, at_mapped}
use Rattle.cal_place.proofs.place.cells_of.Goals as goal

pub text-requires : goal.text-requires
text-requires c =
    let cells = c.args.cells.now in
    (All-item (CellHasNumbers c.args.names.now) cells cells c.loop-place.place c.index-cells-place.result refl c.loop-place-test.true c.index-cells-place.is c.requires).0

pub loop-place-preserved : goal.loop-place-preserved
loop-place-preserved c =
    let cells = c.args.cells.now in
    let names = c.args.names.now in
    let trees = map (cell_tree names) cells in
    let k = c.loop-place.place in
    let tree = cell_tree names c.index-cells-place.result in
    let named = text_of-slice_get names c.index-cells-place.result.name c.text.result.now c.text.ensures in
    let at : slice_get (cell_names trees) k ≡ Some c.text.result.now =
    to_map (λ (x : CellDef). x.name) trees k tree (at_mapped (cell_tree names) cells cells k c.index-cells-place.result refl c.loop-place-test.true c.index-cells-place.is) ∙ ap Some named in
    firsts_more (cell_names trees) k c.text.result.now c.loop-place.firsts c.add.new.self at c.in_ok-add.ensures c.loop-place.invariant

pub returns : goal.returns
returns c =
    let cells = c.args.cells.now in
    let trees = map (cell_tree c.args.names.now) cells in
    let end : length (cell_names trees) ≤ c.loop-place.place =
    omega (arith, c.loop-place-test.false, length-map trees (λ (x : CellDef). x.name), length-map cells (cell_tree c.args.names.now)) in
    firsts_all (cell_names trees) c.loop-place.place c.loop-place.firsts end c.loop-place.invariant
