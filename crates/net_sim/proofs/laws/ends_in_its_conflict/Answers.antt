use Rattle.net_sim.proofs.StandsLemmas.{ends_in_its_conflict}
use Rattle.net_sim.proofs.laws.ends_in_its_conflict.Goals as goal

pub returns : goal.returns
returns c = ends_in_its_conflict
