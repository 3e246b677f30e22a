use Rattle.std.proofs.Common.{ℕ, ◌<◌, List}
use Rattle.hw_names.specs.Name.{Text, AreDistinct}
use Rattle.fil_ast.specs.Tree.{TimeAt}
use Rattle.fil_sig.specs.Seen.{seen}
use Rattle.fil_rules.specs.inside.Sharing.{AreApartAt}
use Rattle.fil_place.specs.Times.{AreTimes}
use Rattle.fil_rules.proofs.sharing.apart.first_meeting.Given as goal

-- the events so far are triggered apart
abbrev pub invariant-loop-number : goal.invariant-loop-number
invariant-loop-number l =
    (events : List Text) (inst : Text) (times others : List TimeAt) → AreDistinct events → AreTimes events l.at times → AreTimes events l.earlier others
    → (k : ℕ) → k < l.number → AreApartAt (seen l.sig) inst times others k
