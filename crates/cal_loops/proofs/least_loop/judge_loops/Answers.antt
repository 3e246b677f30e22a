use Rattle.std.proofs.Common.{◌≡◌, ◌<◌, ℕ, List, length, sym, subst, subst₂}
use Rattle.std.specs.Prelude.{All}
use Rattle.hw_cells.specs.Cells.{AreOfParts, IsFit, IsFlat}
use Rattle.hw_cells.specs.declared.cell.Cell.{Cell}
use Rattle.hw_graph.specs.declared.groups.Entry.{Entry}
use Rattle.hw_names.specs.Name.{AreDistinct}
use Rattle.cal_ast.specs.Rules.{KeepsRules}
use Rattle.cal_place.specs.Around.{Around, comp_at, design_at}
use Rattle.cal_loops.specs.inside.Cells.{AreCells, LeadsAsRead}
use Rattle.cal_wires.specs.Readings.{HasOwnReadings}
use Rattle.cal_wires.specs.declared.graph.WireGraph.{WireGraph}
use Rattle.cal_loops.proofs.FlatLemmas.{leads_as_read}
use Rattle.cal_loops.proofs.least_loop.judge_loops.Goals as goal

-- the flat graph, of so many ports and of the cells as they are lent, leads as the component's ports and holes read one another
leads : (p : Around) → KeepsRules (design_at p) → (g : WireGraph) → AreDistinct g.ports.keys → HasOwnReadings (design_at p) (comp_at p) g → (cells lent : List Cell) → AreCells (design_at p) (comp_at p) g cells
    → (count : ℕ) (reads : List (List ℕ)) → count ≡ length g.ports.keys → lent ≡ cells → IsFlat g.entries.items count lent reads → LeadsAsRead (design_at p) (comp_at p) g.ports.keys reads
leads p kept g distinct own cells lent are count reads size same flat =
    leads_as_read (design_at p) kept (comp_at p) g distinct own cells are reads (subst₂ (λ (n : ℕ) (l : List Cell). IsFlat g.entries.items n l reads) size same flat)

pub flatten-requires-clause-entries : goal.flatten-requires-clause-entries
flatten-requires-clause-entries c =
    let g = c.in_ok-graph.graph in
    subst (λ (n : ℕ). All (λ (e : Entry). (e.key < n) × (e.value < n)) g.entries.items) (sym c.len-count.ensures.len) g.in_range

pub flatten-requires-clause-cells : goal.flatten-requires-clause-cells
flatten-requires-clause-cells c =
    subst₂ (λ (n : ℕ) (l : List Cell). All (IsFit n) l) (sym c.len-count.ensures.len) (sym c.deref.ensures.value) c.in_ok-cells.ensures.cells.fit

pub flatten-requires-clause-parts : goal.flatten-requires-clause-parts
flatten-requires-clause-parts c = subst AreOfParts (sym c.deref.ensures.value) c.in_ok-cells.ensures.parts

pub least_loop-requires-clause-graph : goal.least_loop-requires-clause-graph
least_loop-requires-clause-graph c =
    leads c.args.place.now c.requires.kept c.in_ok-graph.graph c.len-count.ensures.distinct c.in_ok-graph.ensures.reads c.in_ok-cells.cells.items c.deref.result.now c.in_ok-cells.ensures.cells c.len-count.result c.in_ok-reads.reads c.len-count.ensures.len c.deref.ensures.value
    c.in_ok-reads.ensures.flat

pub part_inside-requires-clause-graph : goal.part_inside-requires-clause-graph
part_inside-requires-clause-graph c =
    leads c.args.place.now c.requires.kept c.in_ok-graph.graph c.len-count.ensures.distinct c.in_ok-graph.ensures.reads c.in_ok-cells.cells.items c.deref.result.now c.in_ok-cells.ensures.cells c.len-count.result c.in_ok-reads.reads c.len-count.ensures.len c.deref.ensures.value
    c.in_ok-reads.ensures.flat

pub returns-clause-inside : goal.returns-clause-inside
returns-clause-inside c = c.in_ok-inside.ensures.known

pub returns-clause-shows : goal.returns-clause-shows
returns-clause-shows c = c.in_ok-inside.ensures.inside

pub returns-clause-cycle : goal.returns-clause-cycle
returns-clause-cycle c = c.in_ok-least_loop.ensures
