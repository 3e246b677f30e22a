use Rattle.net_sim.proofs.StandsLemmas.{stands_at_next}
use Rattle.net_sim.proofs.laws.stands_at_next.Goals as goal

pub returns : goal.returns
returns c = stands_at_next
