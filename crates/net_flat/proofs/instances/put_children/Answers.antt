use Rattle.std.proofs.Common.{◌++◌, List, map, take, sym, subst, ◌∙◌}
use Rattle.std.proofs.lemmas.List.{append-nil, take_all}
use Rattle.cal_ast.specs.Tree.{cell_tree, design_of}
use Rattle.cal_ast.specs.declared.tree.CalCell.{CalCell}
use Rattle.net_flat.specs.inside.Levels.{below, part_at, parts_in}
use Rattle.net_flat.specs.Listing as listing
use Rattle.net_flat.specs.inside.Placed.{AreInstances}
use Rattle.net_flat.proofs.TakeLemmas.{filter_map_one}
use Rattle.net_flat.proofs.instances.put_children.Goals as goal

pub loop-cell-init : goal.loop-cell-init
loop-cell-init c = λ trees path at h. subst (λ (js : List listing.Instance). AreInstances c.args.design.now.names js c.args.found.now.items) (sym (append-nil trees)) h

pub loop-cell-preserved : goal.loop-cell-preserved
loop-cell-preserved c = λ trees path at h.
    let d = c.args.design.now in
    let more = filter_map_one (cell_tree d.names) c.deref-cell-items.result.now c.loop-cell.cell-index c.cell-item.result c.loop-cell-test.true c.cell-item.is
    (below path) (part_at (design_of d)) trees in
    let so_far = trees ++ map (below path) (parts_in (design_of d) (map (cell_tree d.names) (take c.loop-cell.cell-index c.deref-cell-items.result.now))) in
    let put = c.in_ok-put_child.ensures so_far path (c.deref.ensures.value ∙ at) (c.loop-cell.invariant trees path at h) in
    subst (λ (js : List listing.Instance). AreInstances d.names js c.put_child.new.found.items) (sym more) put

pub returns : goal.returns
returns c = λ trees path at h.
    let d = c.args.design.now in
    let all = take_all c.loop-cell.cell-index c.deref-cell-items.result.now c.loop-cell-test.false ∙ c.deref-cell-items.ensures.value in
    subst (λ (cells : List CalCell). AreInstances d.names (trees ++ map (below path) (parts_in (design_of d) (map (cell_tree d.names) cells))) c.loop-cell.found.items) all
    (c.loop-cell.invariant trees path at h)
