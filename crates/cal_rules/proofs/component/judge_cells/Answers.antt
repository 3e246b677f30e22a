use Rattle.std.proofs.Common.{◌≡◌, ℕ, ◌<◌, ◌≤◌, List, [], ◌∷◌, length, map, take, get_or, slice_get, Some, refl, sym, ap, ◌∙◌, arith}
use Rattle.std.proofs.lemmas.List.{length-map}
use Rattle.cal_ast.proofs.ItemLemmas.{slice_get-each}
use Rattle.cal_ast.specs.Items.{TheCell, each}
use Rattle.cal_ast.specs.Numbers.{CellHasNumbers}
use Rattle.cal_ast.specs.Tree.{CellDef, cell_tree}
use Rattle.cal_ast.specs.declared.tree.CalCell.{CalCell}
use Rattle.cal_place.specs.Around.{Around, comp_at, names_at}
use Rattle.cal_rules.proofs.ComponentLemmas.{each_length}
use Rattle.cal_place.proofs.ListLemmas.{All-item, at_mapped}
use Rattle.cal_rules.proofs.WalkLemmas.{ended, last_item, next_item, passes_all, passes_none, walk_passed}
use Rattle.cal_rules.proofs.component.judge_cells.Goals as goal

-- the cell at hand is the component's
cell_at : (p : Around) (cells : List CalCell) (n : ℕ) (cell : CalCell) → map (cell_tree (names_at p)) cells ≡ (comp_at p).cells → n < length cells → cell ≡ get_or cells n cell → slice_get (comp_at p).cells n ≡ Some (cell_tree (names_at p) cell)
cell_at p cells n cell are within is = ap (λ (l : List CellDef). slice_get l n) (sym are) ∙ at_mapped (cell_tree (names_at p)) cells cells n cell refl within is

pub at_cell-requires-clause-numbers : goal.at_cell-requires-clause-numbers
at_cell-requires-clause-numbers c =
    let cells = c.args.cells.now in
    let within : c.loop-number.number < length cells = omega arith in
    All-item (CellHasNumbers (names_at c.args.place.now)) cells cells c.loop-number.number c.index-cells-number.result refl within c.index-cells-number.is c.requires.numbers

pub at_cell-requires-clause-at : goal.at_cell-requires-clause-at
at_cell-requires-clause-at c =
    let within : c.loop-number.number < length c.args.cells.now = omega arith in
    cell_at c.args.place.now c.args.cells.now c.loop-number.number c.index-cells-number.result c.requires.are within c.index-cells-number.is

pub loop-number-init : goal.loop-number-init
loop-number-init c = passes_none c.args.place.now c.args.walk.now

pub returns-in_err-pass : goal.returns-in_err-pass
returns-in_err-pass c =
    let p = c.args.place.now in
    let n = c.loop-number.number in
    let own = (comp_at p).cells in
    let tree = cell_tree (names_at p) c.index-cells-number.result in
    let within : n < length c.args.cells.now = omega arith in
    let at = cell_at p c.args.cells.now n c.index-cells-number.result c.requires.are within c.index-cells-number.is in
    let item = TheCell (take n own) tree in
    let end = c.in_err-pass.field-0.0 in
    walk_passed p (each TheCell own) c.args.walk.now c.pass.new.self c.from_residual.result end c.from_residual.ensures.1
    (last_item p (each TheCell own) n item (slice_get-each TheCell own n tree at) c.args.walk.now c.loop-number.walk c.loop-number.invariant end
    (ended p (Unit {0}) (item ∷ []) c.loop-number.walk c.pass.new.self end (c.in_err-pass.ensures p item c.at_cell.ensures)))

pub loop-number-preserved : goal.loop-number-preserved
loop-number-preserved c =
    let p = c.args.place.now in
    let n = c.loop-number.number in
    let own = (comp_at p).cells in
    let tree = cell_tree (names_at p) c.index-cells-number.result in
    let within : n < length c.args.cells.now = omega arith in
    let at = cell_at p c.args.cells.now n c.index-cells-number.result c.requires.are within c.index-cells-number.is in
    let item = TheCell (take n own) tree in
    next_item p (each TheCell own) n item (slice_get-each TheCell own n tree at) c.args.walk.now c.loop-number.walk c.loop-number.invariant c.pass.new.self
    (c.in_ok-pass.ensures p item c.at_cell.ensures)

pub returns : goal.returns
returns c =
    let p = c.args.place.now in
    let own = (comp_at p).cells in
    let end : length (each TheCell own) ≤ c.loop-number.number =
    omega (arith, each_length TheCell own, ap length c.requires.are, length-map c.args.cells.now (cell_tree (names_at p))) in
    passes_all p (each TheCell own) c.loop-number.number c.args.walk.now c.loop-number.walk end c.loop-number.invariant
