use Rattle.std.proofs.Common.{◌≡◌, List, map, take, flat_map, slice_get, Some, sym, subst}
use Rattle.fil_ast.specs.Scope.{Instance, instances_at}
use Rattle.fil_ast.specs.Tree.{component_tree, statement_tree}
use Rattle.fil_share.specs.Instances.{ShowsInstances}
use Rattle.fil_share.proofs.Lookup.{at_mapped}
use Rattle.fil_share.proofs.MakesLemmas.{flat_next}
use Rattle.fil_share.proofs.instances.Instances.of_body.Goals as goal

pub add_made-requires-clause-made : goal.add_made-requires-clause-made
add_made-requires-clause-made c =
    let names = c.args.names.now in
    let body = c.args.comp.now.body.items in
    let k = c.loop-stmt.stmt-index in
    let s = statement_tree names c.stmt-item.result in
    let at : slice_get (map (statement_tree names) body) k ≡ Some s = at_mapped (statement_tree names) body c.deref-stmt-items.result.now k c.stmt-item.result c.deref-stmt-items.ensures.value c.loop-stmt-test.true c.stmt-item.is in
    c.requires.makes.made k s at

pub loop-stmt-preserved : goal.loop-stmt-preserved
loop-stmt-preserved c =
    let names = c.args.names.now in
    let body = c.args.comp.now.body.items in
    let trees = map (component_tree names) c.args.earlier.now in
    let tree = map (statement_tree names) body in
    let k = c.loop-stmt.stmt-index in
    let s = statement_tree names c.stmt-item.result in
    let at : slice_get (map (statement_tree names) body) k ≡ Some s = at_mapped (statement_tree names) body c.deref-stmt-items.result.now k c.stmt-item.result c.deref-stmt-items.ensures.value c.loop-stmt-test.true c.stmt-item.is in
    let S : List Instance → Type 0 = ShowsInstances c.add_made.new.self trees in
    subst S (sym (flat_next instances_at tree k s at))
    (c.in_ok-add_made.ensures (flat_map instances_at (take k tree)) c.loop-stmt.invariant (c.requires.makes.new k s at))
