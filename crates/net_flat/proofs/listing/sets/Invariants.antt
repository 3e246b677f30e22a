use Rattle.std.proofs.Common.{List, take}
use Rattle.std.specs.List.{flat_map}
use Rattle.hw_names.specs.Name.{KeepsTexts}
use Rattle.net_flat.specs.Listing as listing
use Rattle.net_flat.specs.Listing.{sets_at}
use Rattle.net_flat.specs.inside.Placed.{AreInstances}
use Rattle.net_flat.specs.inside.StandFor.{AreSets}
use Rattle.net_flat.proofs.listing.sets.Given as goal

-- those of the instances so far are listed
abbrev pub invariant-loop-instance : goal.invariant-loop-instance
invariant-loop-instance l =
    record {
      kept : KeepsTexts l.initial.names l.names;
      listed : (listed : List listing.Instance) → AreInstances l.source listed l.instances → AreSets l.names (flat_map sets_at (take l.instance-index listed)) l.found.items;
    }
