use Rattle.std.proofs.Common.{◌≡◌, map, take}
use Rattle.hw_names.specs.Name.{Path, KeepsTexts}
use Rattle.cal_ast.specs.Tree.{assignment_tree}
use Rattle.net_flat.specs.Listing.{flat_set}
use Rattle.net_flat.specs.inside.Placed.{prefix_of}
use Rattle.net_flat.specs.inside.StandFor.{AreSets}
use Rattle.net_flat.proofs.lines.sets_at.Given as goal

-- the assignments so far stand for theirs
abbrev pub invariant-loop-set : goal.invariant-loop-set
invariant-loop-set l =
    KeepsTexts l.initial.names l.names
    × ((path : Path) → l.prefix ≡ prefix_of path → AreSets l.names (map (flat_set path) (map (assignment_tree l.source) (take l.set-index l.sets))) l.found.items)
