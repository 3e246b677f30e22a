use Rattle.std.proofs.Common.{◌<◌, length, refl, sym, subst, ◌∙◌, arith}
use Rattle.std.proofs.lemmas.List.{length-set}
use Rattle.std.proofs.lemmas.Option.{slice_get_within}
use Rattle.cal_ast.specs.declared.tree.CalCell.{CalCell}
use Rattle.cal_walk.proofs.OverLemmas.{at_index}
use Rattle.cal_walk.proofs.TableLemmas.{tells_more, tells_none, tells_all}
use Rattle.cal_walk.proofs.planning.Numbers.name_cells.Goals as goal

pub loop-cell-init : goal.loop-cell-init
loop-cell-init c = record {
  sized = refl;
  tells = tells_none (λ (cell : CalCell). cell.name.0) (λ number (cell : CalCell). cell.made) c.args.cells.now c.args.self.now.made.items;
  groups = refl;
}

pub index_mut-requires : goal.index_mut-requires
index_mut-requires c =
    let item = c.cell-item.result in
    let old = c.args.self.now.made in
    let now = c.loop-cell.self.made in
    let here : item.name.0 < length old.items = subst (λ (cell : CalCell). cell.name.0 < length old.items) (sym c.cell-item.is) (c.requires c.loop-cell.cell-index item c.loop-cell-test.true) in
    omega (arith, here, now.ok.0, c.loop-cell.invariant.sized)

pub loop-cell-preserved : goal.loop-cell-preserved
loop-cell-preserved c =
    let cells = c.args.cells.now in
    let i = c.loop-cell.cell-index in
    let item = c.cell-item.result in
    let old = c.args.self.now.made.items in
    let now = c.loop-cell.self.made.items in
    let here : item.name.0 < length old = subst (λ (cell : CalCell). cell.name.0 < length old) (sym c.cell-item.is) (c.requires i item c.loop-cell-test.true) in
    let within : item.name.0 < length now = omega (arith, here, c.loop-cell.invariant.sized) in
    record {
      sized = length-set now item.name.0 item.made ∙ c.loop-cell.invariant.sized;
      tells = tells_more (λ (cell : CalCell). cell.name.0) (λ number (cell : CalCell). cell.made) cells i item now (at_index cells i item c.loop-cell-test.true c.cell-item.is) within c.loop-cell.invariant.tells;
      groups = c.loop-cell.invariant.groups;
    }

pub returns-clause-made : goal.returns-clause-made
returns-clause-made c =
    let cells = c.args.cells.now in
    tells_all (λ (cell : CalCell). cell.name.0) (λ number (cell : CalCell). cell.made) cells c.loop-cell.cell-index c.loop-cell.self.made.items
    (λ k cell at. omega (arith, slice_get_within cells k cell at, c.loop-cell-test.false)) c.loop-cell.invariant.tells
