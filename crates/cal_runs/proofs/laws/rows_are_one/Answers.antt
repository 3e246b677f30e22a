use Rattle.cal_runs.proofs.EndLemmas.{rows_are_one}
use Rattle.cal_runs.proofs.laws.rows_are_one.Goals as goal

pub returns : goal.returns
returns c = rows_are_one
