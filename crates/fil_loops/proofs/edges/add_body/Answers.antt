use Rattle.std.proofs.Common.{[], length, option_map, ap, ◌∙◌, arith}
use Rattle.std.proofs.lemmas.Option.{slice_get-map}
use Rattle.fil_ast.specs.Tree.{component_tree, statement_tree}
use Rattle.fil_ast.specs.Wires.{through_before, whole_scope}
use Rattle.fil_loops.specs.inside.Readings.{ReadsAt}
use Rattle.fil_place.proofs.EachLemmas.{item_at}
use Rattle.fil_loops.proofs.PortGraphLemmas.{below_all, instances_kept}
use Rattle.fil_loops.proofs.ReadingLemmas.{instances_there, statement_gained}
use Rattle.fil_loops.proofs.edges.add_body.Goals as goal

pub loop-stmt-preserved : goal.loop-stmt-preserved
loop-stmt-preserved c comps place has =
    let names = c.args.place.now.names.now in
    let tree = component_tree names c.args.place.now.comp.now in
    let k = c.loop-stmt.stmt-index in
    let body = c.args.place.now.comp.now.body.items in
    let here = item_at body c.deref-stmt-items.result.now k c.stmt-item.result c.deref-stmt-items.ensures.value c.loop-stmt-test.true c.stmt-item.is in
    let s = statement_tree names c.stmt-item.result in
    let at = slice_get-map (statement_tree names) body k ∙ ap (option_map (statement_tree names)) here in
    statement_gained (through_before []) (whole_scope comps tree) tree.body k c.args.graph.now c.loop-stmt.graph c.add_statement.new.graph s at
    (c.loop-stmt.invariant comps place has)
    (c.in_ok-add_statement.ensures (whole_scope comps tree) place (instances_kept _ (whole_scope comps tree) c.args.graph.now c.loop-stmt.graph (c.loop-stmt.invariant comps place has) has) (instances_there tree.body k s at))

pub returns : goal.returns
returns c comps place has =
    let tree = component_tree c.args.place.now.names.now c.args.place.now.comp.now in
    below_all (ReadsAt (through_before []) (whole_scope comps tree) tree.body) c.loop-stmt.stmt-index (length c.args.place.now.comp.now.body.items) c.args.graph.now c.loop-stmt.graph
    (omega (arith, c.loop-stmt.auto.stmt-index-end, c.loop-stmt-test.false, ap length c.deref-stmt-items.ensures.value)) (c.loop-stmt.invariant comps place has)
