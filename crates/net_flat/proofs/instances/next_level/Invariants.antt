use Rattle.std.proofs.Common.{List, take}
use Rattle.std.specs.List.{flat_map}
use Rattle.cal_ast.specs.Tree.{design_of}
use Rattle.net_flat.specs.inside.Levels.{children}
use Rattle.net_flat.specs.Listing as listing
use Rattle.net_flat.specs.inside.Placed.{AreInstances}
use Rattle.net_flat.proofs.instances.next_level.Given as goal

-- the instances below those so far are found
abbrev pub invariant-loop-instance : goal.invariant-loop-instance
invariant-loop-instance l =
    (listed : List listing.Instance) → AreInstances l.design.names listed l.level
    → AreInstances l.design.names (flat_map (children (design_of l.design)) (take l.instance-index listed)) l.next.items
