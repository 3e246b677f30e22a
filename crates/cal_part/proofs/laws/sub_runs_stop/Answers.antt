use Rattle.cal_part.proofs.StopLemmas.{sub_runs_stop}
use Rattle.cal_part.proofs.laws.sub_runs_stop.Goals as goal

pub returns : goal.returns
returns c = sub_runs_stop
