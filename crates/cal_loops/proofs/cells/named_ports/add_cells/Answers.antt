use Rattle.std.proofs.Common.{rules, ◌<◌, length, arith, sym, ◌∙◌}
use Rattle.cal_place.specs.Around.{comp_at, design_at}
use Rattle.cal_loops.proofs.CellLemmas.{made_within}
use Rattle.cal_loops.proofs.CellPinLemmas.{nodes_within}
use Rattle.cal_wires.proofs.WiredCellLemmas.{cells_counted}
use Rattle.cal_loops.proofs.cells.named_ports.add_cells.Goals as goal

pub signature_of-signature-requires : goal.signature_of-signature-requires
signature_of-signature-requires c =
    let p = c.args.place.now in
    let comp = c.comp.result.now in
    let less : c.loop-cell.cell < length (comp_at p).cells = omega (arith, cells_counted p comp c.comp.ensures.comp, c.len-count.ensures, comp.cells.ok.0, c.loop-cell-test.true) in
    let some = sym c.component_of.ensures ∙ c.in-Some.is in
    made_within (design_at p) p.number (comp_at p) c.comp.ensures.at c.loop-cell.cell less c.made.result c.made.ensures c.in-Some.part some

pub asked_cell-requires : goal.asked_cell-requires
asked_cell-requires c =
    let p = c.args.place.now in
    let ports = c.get.result.now in
    nodes_within (design_at p) (comp_at p) c.in_ok-graph.graph c.loop-cell.cell ports (c.in_ok-nodes.ensures.each c.loop-cell.cell ports c.get.ensures)

pub offset_bounds-asked-part : goal.offset_bounds-asked-part
offset_bounds-asked-part c =
    let p = c.args.place.now in
    let comp = c.comp.result.now in
    let less : c.loop-cell.cell < length (comp_at p).cells = omega (arith, cells_counted p comp c.comp.ensures.comp, c.len-count.ensures, comp.cells.ok.0, c.loop-cell-test.true) in
    let some = sym c.component_of.ensures ∙ c.in-Some.is in
    let within = made_within (design_at p) p.number (comp_at p) c.comp.ensures.at c.loop-cell.cell less c.made.result c.made.ensures c.in-Some.part some in
    let lt : c.in-Some.part < length c.loop-cell.asked = omega (arith, within, c.requires.all, c.loop-cell.auto.asked) in
    search (rules, lt)

pub bounds-asked-part : goal.bounds-asked-part
bounds-asked-part c =
    let p = c.args.place.now in
    let comp = c.comp.result.now in
    let less : c.loop-cell.cell < length (comp_at p).cells = omega (arith, cells_counted p comp c.comp.ensures.comp, c.len-count.ensures, comp.cells.ok.0, c.loop-cell-test.true) in
    let some = sym c.component_of.ensures ∙ c.in-Some.is in
    let within = made_within (design_at p) p.number (comp_at p) c.comp.ensures.at c.loop-cell.cell less c.made.result c.made.ensures c.in-Some.part some in
    omega (arith, within, c.requires.all, c.loop-cell.auto.asked)
