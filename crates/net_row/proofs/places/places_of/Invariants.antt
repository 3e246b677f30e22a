use Rattle.net_row.proofs.FlatOtherLemmas.{AreOfFirst}
use Rattle.net_row.specs.Places.{IsPlaces}
use Rattle.net_row.proofs.places.places_of.Given as goal

abbrev pub invariant-loop-number : goal.invariant-loop-number
invariant-loop-number l = AreOfFirst (IsPlaces l.ports) l.cells l.number l.places.items
