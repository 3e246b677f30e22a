use Rattle.net_runs.proofs.NetRunLemmas.{netlists_have_runs}
use Rattle.net_runs.proofs.laws.netlists_have_runs.Goals as goal

pub returns : goal.returns
returns c = netlists_have_runs
