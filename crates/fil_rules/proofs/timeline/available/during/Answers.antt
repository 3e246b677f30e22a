use Rattle.std.proofs.Common.{Option, subst}
use Rattle.fil_place.specs.Times.{ShowsInterval}
use Rattle.fil_place.specs.declared.times.Interval.{Interval}
use Rattle.fil_rules.proofs.AvailableLemmas.{during_none, during_some}
use Rattle.fil_rules.proofs.timeline.available.during.Goals as goal

pub returns-in-Some : goal.returns-in-Some
returns-in-Some c events o distinct shown =
    let S : Option Interval → Type 0 = λ i. ShowsInterval events i o in
    during_some events c.in-Some.interval o distinct (subst S c.in-Some.is shown)

pub returns-in-None : goal.returns-in-None
returns-in-None c events o distinct shown =
    let S : Option Interval → Type 0 = λ i. ShowsInterval events i o in
    during_none events o (subst S c.in-None.is shown)
