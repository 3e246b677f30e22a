use Rattle.std.proofs.Common.{ℕ, List, sym, subst, ◌∙◌}
use Rattle.std.proofs.lemmas.List.{length-map}
use Rattle.fil_ast.specs.Tree.{component_tree, port_tree}
use Rattle.fil_loops.specs.inside.Reached.{AreNumbered}
use Rattle.fil_loops.specs.OwnPorts.{own_port_names}
use Rattle.fil_loops.specs.Wiring.{TellsLeastLoop}
use Rattle.fil_loops.proofs.WiringLemmas.{is_inside}
use Rattle.fil_loops.proofs.wires.judge_wires.Goals as goal

pub returns-in-None-clause-kept : goal.returns-in-None-clause-kept
returns-in-None-clause-kept c comps place shows keeps own_keeps =
    let tree = component_tree c.args.place.now.names.now c.args.place.now.comp.now in
    subst (TellsLeastLoop comps tree) c.in-None.is (c.in_ok-least_loop.ensures comps tree (c.in_ok-ports.ensures.leads comps place shows keeps own_keeps))

pub returns-in-None-clause-inside : goal.returns-in-None-clause-inside
returns-in-None-clause-inside c comps place shows keeps own_keeps =
    let names = c.args.place.now.names.now in
    let comp = c.args.place.now.comp.now in
    let tree = component_tree names comp in
    let flat = c.in_ok-ports in
    let texts = flat.field-0.ports.names in
    let told = c.in_ok-inside_of-in-None.ensures in
    let own = c.deref.result.now in
    let numbered = subst (λ (nodes : List ℕ). AreNumbered texts nodes (own_port_names tree)) (sym c.deref.ensures.value) (flat.ensures.own comps place) in
    let inside = c.in_ok-inside_of-in-None.field-0 in
    let known = is_inside comps tree texts flat.field-0.reads (flat.ensures.leads comps place shows keeps own_keeps) inside (told.names comps own_keeps) told.distinct (told.inputs ∙ sym (length-map comp.ins.items (port_tree names))) told.reads own told.nodes numbered in
    c.in_ok-condensed-in-None.ensures comps tree known

pub returns-clause-cycle : goal.returns-clause-cycle
returns-clause-cycle c comps place shows keeps own_keeps =
    let tree = component_tree c.args.place.now.names.now c.args.place.now.comp.now in
    subst (TellsLeastLoop comps tree) c.in-Some.is (c.in_ok-least_loop.ensures comps tree (c.in_ok-ports.ensures.leads comps place shows keeps own_keeps))
