use Rattle.cal_runs.proofs.EndLemmas.{runs_are_unique}
use Rattle.cal_runs.proofs.laws.runs_are_unique.Goals as goal

pub returns : goal.returns
returns c = runs_are_unique
