use Rattle.std.proofs.Common.{◌≡◌, List}
use Rattle.hw_names.specs.Name.{Text, AreDistinct}
use Rattle.fil_ast.specs.Naming.{event_names}
use Rattle.fil_ast.specs.Tree.{TimeAt, component_tree}
use Rattle.fil_place.specs.Times.{AreTimes}
use Rattle.fil_place.proofs.EachLemmas.{EachBelow}
use Rattle.fil_rules.proofs.HoldLemmas.{Keeps}
use Rattle.fil_rules.proofs.timeline.holds.keeps_delays.Given as goal

-- the events so far keep the rule
abbrev pub invariant-loop-number : goal.invariant-loop-number
invariant-loop-number l =
    (names events : List Text) (times : List TimeAt) → events ≡ event_names (component_tree names l.comp) → AreDistinct events → AreTimes events l.at times
    → EachBelow (Keeps l.sig times (component_tree names l.comp)) l.sig.events.items l.number
