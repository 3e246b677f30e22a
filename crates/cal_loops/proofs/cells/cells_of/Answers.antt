use Rattle.std.proofs.Common.{rules, ◌≡◌, ◌<◌, Some, length, option_and_then, arith, ap, sym, ◌∙◌}
use Rattle.std.proofs.lemmas.Option.{slice_get-get_or}
use Rattle.hw_cells.proofs.GraphLemmas.{of_parts}
use Rattle.cal_place.specs.Around.{comp_at, design_at}
use Rattle.cal_place.specs.Prototypes.{made_component}
use Rattle.cal_loops.proofs.CellLemmas.{are_cells, cells_more, cells_none, cells_same, made_cell, made_known, made_part, made_within, none_made}
use Rattle.cal_loops.proofs.CellPinLemmas.{nodes_within}
use Rattle.cal_loops.proofs.PartGraphLemmas.{graph_in, graphs_more, graphs_none, has_graph}
use Rattle.cal_wires.proofs.WiredCellLemmas.{cells_counted}
use Rattle.cal_loops.proofs.cells.cells_of.Goals.{in-Some+in-Some-insides+in_ok-cell_of+in_ok-push, in-Some+in_default-insides, in_default}
use Rattle.cal_loops.proofs.cells.cells_of.Goals as goal

pub loop-number-init : goal.loop-number-init
loop-number-init c =
    rw c.new-cells.ensures.items (record {
      cells = cells_none (design_at c.args.place.now) (comp_at c.args.place.now) c.args.graph.now;
      graphs = graphs_none c.args.insides.now;
    })

pub get-requires : goal.get-requires
get-requires c =
    let p = c.args.place.now in
    let comp = c.comp.result.now in
    omega (arith, cells_counted p comp c.comp.ensures.comp, c.len-count.ensures, comp.cells.ok.0, c.in_ok-nodes.ensures.all, c.loop-number-test.true)

pub offset_bounds-insides-part : goal.offset_bounds-insides-part
offset_bounds-insides-part c =
    let p = c.args.place.now in
    let comp = c.comp.result.now in
    let less : c.loop-number.number < length (comp_at p).cells = omega (arith, cells_counted p comp c.comp.ensures.comp, c.len-count.ensures, comp.cells.ok.0, c.loop-number-test.true) in
    let some = sym c.component_of.ensures ∙ c.in-Some.is in
    let within = made_within (design_at p) p.number (comp_at p) c.comp.ensures.at c.loop-number.number less c.made.result c.made.ensures c.in-Some.part some in
    let lt : c.in-Some.part < length c.args.insides.now = omega (arith, within, c.requires.parts.all) in
    search (rules, lt)

pub bounds-insides-part : goal.bounds-insides-part
bounds-insides-part c =
    let p = c.args.place.now in
    let comp = c.comp.result.now in
    let less : c.loop-number.number < length (comp_at p).cells = omega (arith, cells_counted p comp c.comp.ensures.comp, c.len-count.ensures, comp.cells.ok.0, c.loop-number-test.true) in
    let some = sym c.component_of.ensures ∙ c.in-Some.is in
    let within = made_within (design_at p) p.number (comp_at p) c.comp.ensures.at c.loop-number.number less c.made.result c.made.ensures c.in-Some.part some in
    omega (arith, within, c.requires.parts.all)

pub cell_of-requires-clause-part : goal.cell_of-requires-clause-part
cell_of-requires-clause-part c =
    let p = c.args.place.now in
    let comp = c.comp.result.now in
    let less : c.loop-number.number < length (comp_at p).cells = omega (arith, cells_counted p comp c.comp.ensures.comp, c.len-count.ensures, comp.cells.ok.0, c.loop-number-test.true) in
    let some = sym c.component_of.ensures ∙ c.in-Some.is in
    made_within (design_at p) p.number (comp_at p) c.comp.ensures.at c.loop-number.number less c.made.result c.made.ensures c.in-Some.part some

pub cell_of-requires-clause-ports : goal.cell_of-requires-clause-ports
cell_of-requires-clause-ports c =
    let p = c.args.place.now in
    let d = design_at p in
    let own = comp_at p in
    let g = c.args.graph.now in
    let number = c.loop-number.number in
    let ports = c.get.result.now in
    nodes_within d own g number ports (c.in_ok-nodes.ensures.each number ports c.get.ensures)

pub loop-number-preserved : goal.loop-number-preserved
loop-number-preserved c =
    let p = c.args.place.now in
    let d = design_at p in
    let own = comp_at p in
    let g = c.args.graph.now in
    let comp = c.comp.result.now in
    let here = c.comp.ensures.at in
    let number = c.loop-number.number in
    let cells = c.loop-number.cells.items in
    let so_far = c.loop-number.invariant in
    let insides = c.args.insides.now in
    let made = c.made.result in
    let of = c.made.ensures in
    let less : number < length own.cells = omega (arith, cells_counted p comp c.comp.ensures.comp, c.len-count.ensures, comp.cells.ok.0, c.loop-number-test.true) in
    elim c.match-component_of.branch [
      | in-Some+in-Some-insides+in_ok-cell_of+in_ok-push w ↦
          let m = w.in-Some.part in
          let some : option_and_then made_component made ≡ Some m = sym c.component_of.ensures ∙ w.in-Some.is in
          let within = made_within d p.number own here number less made of m some in
          let lt : m < length insides = omega (arith, within, c.requires.parts.all) in
          let r = w.index-insides-part.result in
          let at = slice_get-get_or insides m r lt ∙ ap Some (sym w.index-insides-part.is ∙ w.in-Some-insides.is) in
          let part = made_part d p.number own here number less made of m some in
          let ports = w.get.result.now in
          let are = c.in_ok-nodes.ensures.each number ports w.get.ensures in
          let pins = w.in_ok-cell_of.ensures.pins part.0 part.1 in
          let cell = made_cell d p.number own here number less made of m some g insides c.requires.parts _ at ports are _ pins in
          rw (w.cells-is, w.in_ok-push.ensures.items) (record {
            cells = cells_more d own g number cells part.0 _ cell so_far.cells;
            graphs = graphs_more insides cells _ (has_graph insides m _ at w.in_ok-cell_of.field-0 w.in_ok-cell_of.ensures.graph) so_far.graphs;
          })
      | in-Some+in_default-insides w ↦
          let m = w.in-Some.part in
          let some : option_and_then made_component made ≡ Some m = sym c.component_of.ensures ∙ w.in-Some.is in
          let within = made_within d p.number own here number less made of m some in
          let lt : m < length insides = omega (arith, within, c.requires.parts.all) in
          let r = w.index-insides-part.result in
          let at = slice_get-get_or insides m r lt ∙ ap Some (sym w.index-insides-part.is ∙ w.in_default-insides.is) in
          absurd (made_known d p.number own here number less made of m some insides c.requires.parts at)
      | in_default w ↦
          rw w.cells-is (record {
            cells = cells_same d own g number cells (none_made d p.number own here number less made of (sym c.component_of.ensures ∙ w.in_default.is)) so_far.cells;
            graphs = so_far.graphs;
          })
    ]

pub returns-clause-cells : goal.returns-clause-cells
returns-clause-cells c =
    let p = c.args.place.now in
    let comp = c.comp.result.now in
    are_cells (design_at p) (comp_at p) c.args.graph.now c.requires.kept p.number c.comp.ensures.at c.loop-number.cells.items c.loop-number.number
    (omega (arith, cells_counted p comp c.comp.ensures.comp, c.loop-number-test.false, c.len-count.ensures, comp.cells.ok.0)) c.loop-number.invariant.cells

pub returns-clause-parts : goal.returns-clause-parts
returns-clause-parts c = of_parts (graph_in c.args.insides.now) c.loop-number.cells.items c.loop-number.invariant.graphs
