use Rattle.cal_part.proofs.BelowLemmas.{sub_runs}
use Rattle.cal_part.proofs.laws.sub_runs.Goals as goal

pub returns : goal.returns
returns c = sub_runs
