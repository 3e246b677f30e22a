use Rattle.std.proofs.Common.{ap, ◌∙◌}
use Rattle.fil_ast.specs.Tree.{component_tree}
use Rattle.fil_loops.specs.inside.Reached.{port_names}
use Rattle.fil_loops.proofs.DependLemmas.{tree_names}
use Rattle.fil_loops.proofs.WiringLemmas.{own_named, own_nodes}
use Rattle.fil_loops.proofs.inside.inside_of.Goals as goal

pub invariant_of-result-clause-within : goal.invariant_of-result-clause-within
invariant_of-result-clause-within c = own_nodes c.args.reads c.args.nodes.now c.in_ok-nodes.nodes.items c.in_ok-nodes.ensures c.requires.within

pub returns-clause-names : goal.returns-clause-names
returns-clause-names c comps keeps =
    let names = c.args.place.now.names.now in
    let comp = c.args.place.now.comp.now in
    let ins = ap (port_names names) c.deref.ensures.value ∙ tree_names names comp.ins.items in
    let outs = ap (port_names names) c.deref-2.ensures.value ∙ tree_names names comp.outs.items in
    own_named comps (component_tree names comp) keeps c.beside-names.result c.add_names.new.own c.add_names-2.new.own (port_names names c.deref.result.now) (port_names names c.deref-2.result.now) c.beside-names.ensures ins outs c.in_ok-add_names.ensures c.in_ok-add_names-2.ensures
