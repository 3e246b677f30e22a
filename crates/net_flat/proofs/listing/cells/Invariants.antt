use Rattle.std.proofs.Common.{List, take}
use Rattle.std.specs.List.{flat_map}
use Rattle.hw_names.specs.Name.{KeepsTexts}
use Rattle.net_flat.specs.Listing as listing
use Rattle.net_flat.specs.Listing.{cells_at}
use Rattle.net_flat.specs.inside.Placed.{AreInstances}
use Rattle.net_flat.specs.inside.StandFor.{AreCells}
use Rattle.net_flat.proofs.listing.cells.Given as goal

-- those of the instances so far are listed
abbrev pub invariant-loop-instance : goal.invariant-loop-instance
invariant-loop-instance l =
    record {
      kept : KeepsTexts l.initial.names l.names;
      listed : (listed : List listing.Instance) → AreInstances l.source listed l.instances → AreCells l.names (flat_map cells_at (take l.instance-index listed)) l.found.items;
    }
