use Rattle.std.proofs.Common.{ℕ, List, Option, length, sym, subst, subst₂}
use Rattle.hw_cells.specs.Cells.{AreOfParts, IsFlat}
use Rattle.hw_cells.specs.declared.cell.Cell.{Cell}
use Rattle.fil_ast.specs.Tree.{Component, component_tree}
use Rattle.fil_ast.specs.Wires.{whole_scope}
use Rattle.fil_loops.proofs.DependLemmas.{numbered_kept}
use Rattle.fil_loops.proofs.FlatLemmas.{fit_cells, leads_as_read, own_kept}
use Rattle.fil_loops.proofs.PortGraphLemmas.{instances_kept, ports_within}
use Rattle.fil_loops.specs.inside.Cells.{AreCells, NumbersDotted}
use Rattle.fil_loops.specs.inside.PortGraph.{NoPair}
use Rattle.fil_loops.specs.OwnPorts.{own_port_names}
use Rattle.fil_loops.proofs.wires.flat_graph.Goals as goal

pub flatten-requires-clause-cells : goal.flatten-requires-clause-cells
flatten-requires-clause-cells c =
    fit_cells c.deref-2.result.now c.args.insides.now c.number_dotted.new.graph.ports c.in_ok-cells.cells.items c.deref-3.result.now c.len-count.result c.in_ok-cells.ensures.cells (sym c.deref-3.ensures.value) (sym c.len-count.ensures.len)

pub flatten-requires-clause-parts : goal.flatten-requires-clause-parts
flatten-requires-clause-parts c = subst AreOfParts (sym c.deref-3.ensures.value) c.in_ok-cells.ensures.parts

pub returns-clause-leads : goal.returns-clause-leads
returns-clause-leads c comps place shows keeps own_keeps =
    let names = c.args.place.now.names.now in
    let comp = c.args.place.now.comp.now in
    let tree : Component = component_tree names comp in
    let g = c.number_dotted.new.graph in
    let adds = c.in_ok-number_dotted.ensures.adds in
    let parts = c.in_ok-parts.parts.items in
    let cells = c.in_ok-cells.cells.items in
    let dots : NumbersDotted parts c.args.insides.now g.ports = subst (λ (l : List (Option ℕ)). NumbersDotted l c.args.insides.now g.ports) c.deref.ensures.value c.in_ok-number_dotted.ensures.numbered in
    let are : AreCells parts c.args.insides.now g.ports cells = subst (λ (l : List (Option ℕ)). AreCells l c.args.insides.now g.ports cells) c.deref-2.ensures.value c.in_ok-cells.ensures.cells in
    let flat : IsFlat g.entries.items (length g.ports.names) cells c.in_ok-reads.reads = subst₂ (λ (n : ℕ) (l : List Cell). IsFlat g.entries.items n l c.in_ok-reads.reads) c.len-count.ensures.len c.deref-3.ensures.value c.in_ok-reads.ensures.flat in
    leads_as_read comps tree names c.args.place.now.earlier.now comp c.args.place.now.tables.now place c.in_ok-parts.ensures.distinct keeps own_keeps parts (c.in_ok-parts.ensures.parts comps place) c.args.insides.now shows g
    (instances_kept NoPair (whole_scope comps tree) c.in_ok-graph.field-0.graph g adds (c.in_ok-graph.ensures.instances comps place)) (own_kept comps tree c.in_ok-graph.field-0.graph g adds (c.in_ok-graph.ensures.reads comps place)) c.len-count.ensures.distinct dots cells are
    c.in_ok-reads.reads flat

pub returns-clause-own : goal.returns-clause-own
returns-clause-own c comps place =
    let names = own_port_names (component_tree c.args.place.now.names.now c.args.place.now.comp.now) in
    numbered_kept c.in_ok-graph.field-0.graph.ports.names c.number_dotted.new.graph.ports.names c.in_ok-number_dotted.ensures.adds.texts c.in_ok-graph.field-0.own.items names (c.in_ok-graph.ensures.own comps place)

pub returns-clause-within : goal.returns-clause-within
returns-clause-within c = ports_within NoPair c.in_ok-graph.field-0.own.items c.in_ok-graph.field-0.graph c.number_dotted.new.graph c.in_ok-number_dotted.ensures.adds c.in_ok-graph.ensures.within
