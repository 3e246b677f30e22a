use Rattle.std.proofs.Common.{ℕ}
use Rattle.std.specs.Prelude.{All}
use Rattle.hw_short.specs.Order.{IsFit}
use Rattle.hw_short.specs.inside.ShortNames.{IsPieceFit}
use Rattle.hw_short.proofs.ShortNameLemmas.{HavePlacesTo}
use Rattle.hw_short.proofs.pieces.all_places.Given as goal

-- the places so far
abbrev pub invariant-loop-name : goal.invariant-loop-name
invariant-loop-name l = record {
  have : HavePlacesTo l.pieces.keys l.full l.name-index l.places.items;
  fit : (count : ℕ) → All (IsFit count) l.full → All (IsPieceFit count) l.fn.pieces.keys → All (IsPieceFit count) l.pieces.keys;
}
