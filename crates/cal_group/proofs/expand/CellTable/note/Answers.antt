use Rattle.std.proofs.Common.{◌<◌, List, length, refl, subst, sym, ◌∙◌, arith}
use Rattle.std.proofs.lemmas.List.{length-set, take_all}
use Rattle.cal_ast.specs.Numbers.{CellHasNumbers}
use Rattle.cal_ast.specs.declared.tree.CalCell.{CalCell}
use Rattle.cal_group.proofs.BlockLemmas.{at_index}
use Rattle.cal_group.proofs.CellLemmas.{Tells, tells_none, tells_more, holds_more, has_cells}
use Rattle.cal_group.proofs.expand.CellTable.note.Goals as goal

pub loop-cell-init : goal.loop-cell-init
loop-cell-init c = record {
  sized = refl;
  holds = λ source all holds. holds;
  tells = tells_none c.args.self.now.by_name.items;
}

pub index_mut-requires : goal.index_mut-requires
index_mut-requires c =
    let item = c.cell-item.result in
    let old = c.args.self.now.by_name in
    let now = c.loop-cell.self.by_name in
    let here : item.name.0 < length old.items = c.requires item (c.loop-cell.cell-index, c.loop-cell-test.true, sym c.cell-item.is) in
    omega (arith, here, now.ok.0, c.loop-cell.invariant.sized)

pub loop-cell-preserved : goal.loop-cell-preserved
loop-cell-preserved c =
    let cells = c.args.cells.now in
    let i = c.loop-cell.cell-index in
    let item = c.cell-item.result in
    let now = c.loop-cell.self in
    let here : item.name.0 < length c.args.self.now.by_name.items = c.requires item (i, c.loop-cell-test.true, sym c.cell-item.is) in
    let within : item.name.0 < length now.by_name.items = omega (arith, here, c.loop-cell.invariant.sized) in
    record {
      sized = length-set now.by_name.items item.name.0 _ ∙ c.loop-cell.invariant.sized;
      holds = λ source all holds.
          holds_more source now _ item.name.0 _ refl (subst (CellHasNumbers source) (sym c.cell-item.is) (all i item c.loop-cell-test.true)) (c.loop-cell.invariant.holds source all holds);
      tells = tells_more cells i item _ now.by_name.items (at_index cells i item c.loop-cell-test.true c.cell-item.is) refl within c.loop-cell.invariant.tells;
    }

pub returns-clause-has : goal.returns-clause-has
returns-clause-has c = λ source comp distinct numbers same names.
    let cells = c.args.cells.now in
    let i = c.loop-cell.cell-index in
    let table = c.loop-cell.self in
    let T : List CalCell → Type 0 = λ l. Tells l table.by_name.items in
    has_cells source comp cells table distinct numbers same names (subst T (take_all i cells c.loop-cell-test.false) c.loop-cell.invariant.tells)
