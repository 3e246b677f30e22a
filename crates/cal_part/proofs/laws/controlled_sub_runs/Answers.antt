use Rattle.cal_part.proofs.ControlLemmas.{controlled_sub_runs}
use Rattle.cal_part.proofs.laws.controlled_sub_runs.Goals as goal

pub returns : goal.returns
returns c = controlled_sub_runs
