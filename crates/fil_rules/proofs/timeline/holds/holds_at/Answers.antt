use Rattle.fil_sig.proofs.ListLemmas.{told_true}
use Rattle.fil_sig.specs.Seen.{seen_delay}
use Rattle.fil_rules.specs.inside.Holds.{HoldsAt}
use Rattle.fil_rules.proofs.HoldLemmas.{holds_unused}
use Rattle.fil_rules.proofs.timeline.holds.holds_at.Goals as goal

pub returns-in-None : goal.returns-in-None
returns-in-None c events times are =
    told_true (HoldsAt (seen_delay c.args.delay) times c.args.number) (holds_unused events times c.args.number (seen_delay c.args.delay) (c.in-None.ensures.shown events times are))
