use Rattle.net_steps.proofs.ApartLemmas.{implied_at}
use Rattle.net_steps.proofs.asked.number_of.Goals as goal

pub returns-then-asked-slot : goal.returns-then-asked-slot
returns-then-asked-slot c =
    implied_at c.args.steps.now c.args.truth c.in_ok-asked.asked c.args.slot c.in_ok-asked.ensures c.if-asked-slot.true
