use Rattle.std.proofs.Common.{List}
use Rattle.hw_names.specs.Name.{Text}
use Rattle.fil_ast.specs.Tree.{TimeAt}
use Rattle.fil_place.specs.Times.{AreTimes}
use Rattle.fil_place.proofs.EachLemmas.{EachBelow}
use Rattle.fil_rules.proofs.HoldLemmas.{Holds}
use Rattle.fil_rules.proofs.timeline.holds.holds_some.Given as goal

-- the events so far keep the rule
abbrev pub invariant-loop-number : goal.invariant-loop-number
invariant-loop-number l = (events : List Text) (times : List TimeAt) → AreTimes events l.at times → EachBelow (Holds l.sig times) l.sig.events.items l.number
