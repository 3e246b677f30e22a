use Rattle.net_sim.proofs.StandsLemmas.{ends_after_all}
use Rattle.net_sim.proofs.laws.ends_after_all.Goals as goal

pub returns : goal.returns
returns c = ends_after_all
