use Rattle.net_sim.proofs.StandsLemmas.{stands_at_start}
use Rattle.net_sim.proofs.laws.stands_at_start.Goals as goal

pub returns : goal.returns
returns c = stands_at_start
