use Rattle.std.proofs.Common.{◌≡◌, length}
use Rattle.hw_levels.proofs.OrderLemmas.{HavePlaces}
use Rattle.hw_levels.proofs.levels.places_in.Given as goal

abbrev pub invariant-loop-place : goal.invariant-loop-place
invariant-loop-place l =
    record {
      all : length l.places.items ≡ l.count;
      each : HavePlaces l.order l.places.items l.place;
    }
