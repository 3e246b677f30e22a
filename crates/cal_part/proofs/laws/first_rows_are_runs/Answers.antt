use Rattle.cal_part.proofs.FirstLemmas.{first_rows_are_runs}
use Rattle.cal_part.proofs.laws.first_rows_are_runs.Goals as goal

pub returns : goal.returns
returns c = first_rows_are_runs
