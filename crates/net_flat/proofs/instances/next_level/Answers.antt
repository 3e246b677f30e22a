use Rattle.std.proofs.Common.{List, sym, subst}
use Rattle.std.specs.List.{flat_map}
use Rattle.cal_ast.specs.Tree.{component_tree, design_of}
use Rattle.net_flat.specs.inside.Levels.{children}
use Rattle.net_flat.specs.Listing as listing
use Rattle.net_flat.specs.inside.Placed.{AreInstances}
use Rattle.net_flat.proofs.FoundLemmas.{all_listed, instances_none, next_instance}
use Rattle.net_flat.proofs.TakeLemmas.{flat_map_push}
use Rattle.net_flat.proofs.instances.next_level.Goals as goal

pub loop-instance-init : goal.loop-instance-init
loop-instance-init c = λ listed h. rw c.new-next.ensures.items (instances_none c.args.design.now.names)

pub loop-instance-preserved : goal.loop-instance-preserved
loop-instance-preserved c = λ listed h.
    let d = c.args.design.now in
    let i = c.instance-item.result in
    let next = next_instance d.names listed c.args.level.now c.loop-instance.instance-index i h c.loop-instance-test.true c.instance-item.is in
    let more = flat_map_push (children (design_of d)) _ _ (next.path, component_tree d.names i.comp.now) next.more in
    subst (λ (js : List listing.Instance). AreInstances d.names js c.put_children.new.found.items) (sym more)
    (c.in_ok-put_children.ensures _ next.path next.prefix (c.loop-instance.invariant listed h))

pub returns : goal.returns
returns c = λ listed h.
    let d = c.args.design.now in
    let all = all_listed d.names listed c.args.level.now c.loop-instance.instance-index h c.loop-instance-test.false in
    subst (λ (js : List listing.Instance). AreInstances d.names (flat_map (children (design_of d)) js) c.loop-instance.next.items) all (c.loop-instance.invariant listed h)
