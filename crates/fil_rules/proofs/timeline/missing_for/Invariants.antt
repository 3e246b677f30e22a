use Rattle.std.proofs.Common.{List, length}
use Rattle.hw_names.specs.Name.{AreDistinct}
use Rattle.fil_ast.specs.Scope.{Scope}
use Rattle.fil_ast.specs.Tree.{TimeAt}
use Rattle.fil_place.specs.Place.{IsPlaceIn}
use Rattle.fil_place.specs.Times.{AreTimes}
use Rattle.fil_rules.proofs.ReadLemmas.{ReadsBelow}
use Rattle.fil_rules.proofs.timeline.missing_for.Given as goal

-- the arguments so far are available
abbrev pub invariant-loop-arg : goal.invariant-loop-arg
invariant-loop-arg l =
    (scope : Scope) (times : List TimeAt) → IsPlaceIn l.place scope → AreDistinct l.place.tables.now.events → AreTimes l.place.tables.now.events l.at times
    → ReadsBelow l.place.names.now scope times l.ports l.args (length l.yielded)
