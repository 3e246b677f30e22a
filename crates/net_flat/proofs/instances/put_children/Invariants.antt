use Rattle.std.proofs.Common.{◌≡◌, List, ◌++◌, map, take}
use Rattle.cal_ast.specs.Tree.{cell_tree, design_of}
use Rattle.hw_names.specs.Name.{Path}
use Rattle.net_flat.specs.inside.Levels.{below, parts_in}
use Rattle.net_flat.specs.Listing as listing
use Rattle.net_flat.specs.inside.Placed.{AreInstances, prefix_of}
use Rattle.net_flat.proofs.instances.put_children.Given as goal

-- the parts among the cells so far are put last
abbrev pub invariant-loop-cell : goal.invariant-loop-cell
invariant-loop-cell l =
    (trees : List listing.Instance) (path : Path) → l.instance.prefix.items ≡ prefix_of path → AreInstances l.design.names trees l.initial.found.items
    → AreInstances l.design.names (trees ++ map (below path) (parts_in (design_of l.design) (map (cell_tree l.design.names) (take l.cell-index l.cell-items)))) l.found.items
