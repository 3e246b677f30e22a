use Rattle.std.proofs.Common.{◌<◌, length, ◌∙◌, arith}
use Rattle.cal_ast.specs.Tree.{CellDef}
use Rattle.cal_place.specs.Around.{comp_at}
use Rattle.cal_wires.specs.Readings.{ReadsPrimitive}
use Rattle.cal_wires.proofs.GainLemmas.{grows_all, grows_next, grows_start}
use Rattle.cal_wires.proofs.DependLemmas.{got_at}
use Rattle.cal_wires.proofs.WiredCellLemmas.{cells_counted}
use Rattle.cal_wires.proofs.readings.add_primitives.Goals as goal

pub loop-number-init : goal.loop-number-init
loop-number-init c =
    let p = c.args.place.now in
    grows_start (λ j (cell : CellDef). ReadsPrimitive (comp_at p) cell.name) (comp_at p).cells c.args.graph.now

pub add_primitive_cell-requires-clause-names : goal.add_primitive_cell-requires-clause-names
add_primitive_cell-requires-clause-names c = c.loop-number.invariant.adds.names ∙ c.requires.names

pub add_primitive_cell-requires-clause-number : goal.add_primitive_cell-requires-clause-number
add_primitive_cell-requires-clause-number c =
    let comp = c.comp.result.now in
    omega (arith, cells_counted c.args.place.now comp c.comp.ensures.comp, c.loop-number-test.true, c.len-number-end.ensures, comp.cells.ok.0)

pub loop-number-preserved : goal.loop-number-preserved
loop-number-preserved c =
    let p = c.args.place.now in
    let comp = c.comp.result.now in
    let cells = (comp_at p).cells in
    let k = c.loop-number.number in
    let lt : k < length cells = omega (arith, cells_counted p comp c.comp.ensures.comp, c.loop-number-test.true, c.len-number-end.ensures, comp.cells.ok.0) in
    let cell = got_at cells k lt in
    grows_next (λ j (x : CellDef). ReadsPrimitive (comp_at p) x.name) cells k cell.0 c.args.graph.now c.loop-number.graph c.add_primitive_cell.new.graph cell.1 c.loop-number.invariant (c.in_ok-add_primitive_cell.ensures cell.0 cell.1)

pub returns : goal.returns
returns c =
    let p = c.args.place.now in
    let comp = c.comp.result.now in
    grows_all (λ j (x : CellDef). ReadsPrimitive (comp_at p) x.name) (comp_at p).cells c.loop-number.number c.args.graph.now c.loop-number.graph
    (omega (arith, cells_counted p comp c.comp.ensures.comp, c.loop-number-test.false, c.len-number-end.ensures, comp.cells.ok.0)) c.loop-number.invariant
