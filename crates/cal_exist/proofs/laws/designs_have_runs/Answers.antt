use Rattle.cal_exist.proofs.DesignRunLemmas.{designs_have_runs}
use Rattle.cal_exist.proofs.laws.designs_have_runs.Goals as goal

pub returns : goal.returns
returns c = designs_have_runs
