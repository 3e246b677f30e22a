use Rattle.std.proofs.Common.{◌≡◌, false, true, sym, subst, ◌∙◌}
use Rattle.cal_ast.specs.Naming.{cell_names}
use Rattle.cal_place.specs.Around.{comp_at, design_at}
use Rattle.cal_place.specs.FirstPlaces.{TellsFirst}
use Rattle.cal_loops.proofs.CellPinLemmas.{TellsCell, cell_told, no_cell, no_cell_port, no_part}
use Rattle.cal_place.proofs.PlaceLemmas.{made_at_first}
use Rattle.cal_loops.proofs.cells.cell_number.Goals as goal

pub returns-in_err-cell : goal.returns-in_err-cell
returns-in_err-cell c =
    let d = design_at c.args.place.now in
    let own = comp_at c.args.place.now in
    let g = c.args.graph.now in
    subst (TellsCell d own g c.args.node) (sym c.from_residual.ensures) (no_cell_port d own g c.args.node (λ cell pin at. let bad : false ≡ true = c.in_err-cell.ensures.none cell pin at in absurd (cc)))

pub returns-in_err-number : goal.returns-in_err-number
returns-in_err-number c =
    let d = design_at c.args.place.now in
    let own = comp_at c.args.place.now in
    let g = c.args.graph.now in
    subst (TellsCell d own g c.args.node) (sym c.from_residual-in_err-number.ensures)
    (no_cell d own g c.args.node c.in_ok-cell.cell.now c.in_ok-cell._pin.now c.in_ok-cell.ensures.some c.cell.result c.cell.ensures c.in_err-number.was)

pub returns-in_err-_part : goal.returns-in_err-_part
returns-in_err-_part c =
    let d = design_at c.args.place.now in
    let own = comp_at c.args.place.now in
    let g = c.args.graph.now in
    let cell = c.in_ok-cell.cell.now in
    let first = subst (TellsFirst (cell_names own.cells) cell) c.in_ok-number.was c.cell.ensures in
    let made = made_at_first d own cell c.in_ok-number.number c.made.result first c.made.ensures in
    subst (TellsCell d own g c.args.node) (sym c.from_residual-in_err-_part.ensures)
    (no_part d own g c.args.node cell c.in_ok-cell._pin.now c.in_ok-cell.ensures.some c.made.result made (sym c.component_of.ensures ∙ c.in_err-_part.was))

pub returns : goal.returns
returns c =
    let d = design_at c.args.place.now in
    let own = comp_at c.args.place.now in
    let g = c.args.graph.now in
    let cell = c.in_ok-cell.cell.now in
    let first = subst (TellsFirst (cell_names own.cells) cell) c.in_ok-number.was c.cell.ensures in
    let made = made_at_first d own cell c.in_ok-number.number c.made.result first c.made.ensures in
    cell_told d own g c.args.node cell c.in_ok-cell._pin.now c.in_ok-cell.ensures.some c.in_ok-number.number first c.made.result made c.in_ok-_part._part (sym c.component_of.ensures ∙ c.in_ok-_part.was)
