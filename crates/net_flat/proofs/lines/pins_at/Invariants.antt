use Rattle.std.proofs.Common.{◌≡◌, map, take}
use Rattle.hw_names.specs.Name.{Path, KeepsTexts}
use Rattle.cal_ast.specs.Tree.{pin_tree}
use Rattle.net_flat.specs.Listing.{flat_pin}
use Rattle.net_flat.specs.inside.Placed.{prefix_of}
use Rattle.net_flat.specs.inside.StandFor.{ArePins}
use Rattle.net_flat.proofs.lines.pins_at.Given as goal

-- the pins so far stand for theirs
abbrev pub invariant-loop-pin : goal.invariant-loop-pin
invariant-loop-pin l =
    KeepsTexts l.initial.names l.names
    × ((path : Path) → l.prefix ≡ prefix_of path → ArePins l.names (map (flat_pin path) (map (pin_tree l.source) (take l.pin-index l.pins))) l.found.items)
