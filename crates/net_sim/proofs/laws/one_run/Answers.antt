use Rattle.net_sim.proofs.OneRunLemmas.{one_run}
use Rattle.net_sim.proofs.laws.one_run.Goals as goal

pub returns : goal.returns
returns c = one_run
