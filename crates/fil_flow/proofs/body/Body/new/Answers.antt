use Rattle.std.proofs.Common.{◌≡◌, List, map, subst}
use Rattle.hw_names.specs.Name.{AreDistinct}
use Rattle.fil_ast.specs.Tree.{component_tree, port_tree}
use Rattle.fil_ast.specs.declared.tree.FilPort.{FilPort}
use Rattle.fil_flow.specs.inside.Body.{data_names}
use Rattle.fil_flow.proofs.BodyLemmas.{body_start}
use Rattle.fil_flow.proofs.PortLemmas.{inputs_differ}
use Rattle.fil_flow.proofs.body.Body.new.Goals as goal

pub returns : goal.returns
returns c earlier before known new_names =
    let comp = component_tree c.args.names.now c.args.comp.now in
    let I : List FilPort → Type 0 = λ ports. AreDistinct (data_names (map (port_tree c.args.names.now) ports)) → c.in_ok-inputs.inputs ≡ data_names (map (port_tree c.args.names.now) ports) in
    let inputs = subst I c.deref.ensures.value c.in_ok-inputs.ensures in
    body_start earlier before comp _ known (inputs (inputs_differ before comp new_names))
    c.beside.ensures c.new.ensures.items c.beside-2.ensures c.new-2.ensures.items c.len-places.ensures.len c.len-places.ensures.small
