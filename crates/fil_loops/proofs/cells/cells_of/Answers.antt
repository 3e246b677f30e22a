use Rattle.std.proofs.Common.{◌≡◌, ◌<◌, ℕ, List, None, Some, All, get_or, slice_get, sym, subst, ◌∙◌, arith}
use Rattle.std.proofs.lemmas.List.Elements.{All-push, Contains-get_or}
use Rattle.std.proofs.lemmas.Option.{none-some}
use Rattle.hw_graph.specs.Groups.{IsGathered}
use Rattle.hw_graph.specs.declared.groups.Entry.{Entry}
use Rattle.hw_cells.proofs.GraphLemmas.{HasGraphOf, of_parts}
use Rattle.fil_loops.proofs.CellLemmas.{are_cells, cells_more, cells_same, graph_in, has_graph, not_known}
use Rattle.fil_loops.proofs.CellPinLemmas.{keys_within, ports_gathered}
use Rattle.fil_place.proofs.TimeLemmas.{got_none, got_some}
use Rattle.fil_loops.proofs.cells.cells_of.Goals.{in-Some+in-Some-get+in_ok-cell_of+in_ok-push, in-Some+in_default-get, in_default}
use Rattle.fil_loops.proofs.cells.cells_of.Goals as goal

pub gather-requires-clause-in_range : goal.gather-requires-clause-in_range
gather-requires-clause-in_range c =
    let entries = c.in_ok-entries.entries.items in
    let within = keys_within c.args.ports.now entries c.in_ok-entries.ensures in
    let counted = subst (λ (n : ℕ). All (λ (e : Entry). e.key < n) entries) (sym c.instances-count.ensures.count) within in
    subst (λ (l : List Entry). All (λ (e : Entry). e.key < c.instances-count.result) l) (sym c.as_slice.ensures.value) counted

pub cell_of-requires-clause-nodes : goal.cell_of-requires-clause-nodes
cell_of-requires-clause-nodes c =
    let ports = c.args.ports.now in
    let entries = c.in_ok-entries.entries.items in
    let count = c.instances-count.result in
    let groups = c.in_ok-nodes.nodes in
    let gathered = subst (λ (l : List Entry). IsGathered l count groups) c.as_slice.ensures.value c.in_ok-nodes.ensures in
    let nodes = c.get-in-Some-get.result.now in
    let are = ports_gathered ports entries c.in_ok-entries.ensures count groups gathered c.loop-instance.instance c.loop-instance-test.true nodes c.get-in-Some-get.ensures in
    λ k d lt. (are (get_or nodes k d)).0 (Contains-get_or nodes k d lt)

pub loop-instance-preserved : goal.loop-instance-preserved
loop-instance-preserved c =
    let ports = c.args.ports.now in
    let parts = c.args.parts.now in
    let insides = c.args.insides.now in
    let instance = c.loop-instance.instance in
    let cells = c.loop-instance.cells.items in
    let so_far = c.loop-instance.invariant in
    elim c.match-part_at.branch [
      | in-Some+in-Some-get+in_ok-cell_of+in_ok-push w ↦
          let entries = c.in_ok-entries.entries.items in
          let count = c.instances-count.result in
          let groups = c.in_ok-nodes.nodes in
          let gathered = subst (λ (l : List Entry). IsGathered l count groups) c.as_slice.ensures.value c.in_ok-nodes.ensures in
          let nodes = w.get-in-Some-get.result.now in
          let part = w.in-Some.part in
          let inside = w.in-Some-get.inside.now in
          let part_is : slice_get parts instance ≡ Some (Some part) = (c.part_at.ensures part).0 w.in-Some.is in
          let inside_is : slice_get insides part ≡ Some inside = got_some insides part w.get.result w.in-Some-get.inside w.get.ensures.lookup w.in-Some-get.is in
          let graph = w.in_ok-cell_of.ensures.graph in
          rw (w.cells-is, w.in_ok-push.ensures.items) (record {
            cells = cells_more parts insides ports instance cells inside _
                (record {
                  known = (part, part_is, inside_is);
                  nodes = nodes;
                  are_nodes = ports_gathered ports entries c.in_ok-entries.ensures count groups gathered instance c.loop-instance-test.true nodes w.get-in-Some-get.ensures;
                  pins = w.in_ok-cell_of.ensures.pins;
                })
                so_far.cells;
            graphs = All-push (HasGraphOf (graph_in insides)) cells _ so_far.graphs (has_graph insides part inside w.in_ok-cell_of.field-0 inside_is graph.0 graph.1);
          })
      | in-Some+in_default-get w ↦
          let part = w.in-Some.part in
          let part_is : slice_get parts instance ≡ Some (Some part) = (c.part_at.ensures part).0 w.in-Some.is in
          let past : slice_get insides part ≡ None = got_none insides part w.get.result w.get.ensures.lookup w.in_default-get.is in
          rw w.cells-is (record { cells = cells_same parts insides ports instance cells (not_known parts insides instance part part_is past) so_far.cells; graphs = so_far.graphs })
      | in_default w ↦
          rw w.cells-is (record { cells = cells_same parts insides ports instance cells (λ inside known. none-some known.0 (sym w.in_default.is ∙ (c.part_at.ensures known.0).1 known.1)) so_far.cells; graphs = so_far.graphs })
    ]

pub returns-clause-cells : goal.returns-clause-cells
returns-clause-cells c =
    are_cells c.args.parts.now c.args.insides.now c.args.ports.now c.loop-instance.instance c.loop-instance.cells.items (omega (arith, c.loop-instance-test.false, c.instances-count.ensures.count)) c.loop-instance.invariant.cells

pub returns-clause-parts : goal.returns-clause-parts
returns-clause-parts c = of_parts (graph_in c.args.insides.now) c.loop-instance.cells.items c.loop-instance.invariant.graphs
