use Rattle.cal_runs.proofs.RunLemmas.{same_actors_act}
use Rattle.cal_runs.proofs.laws.actors_are_one.Goals as goal

pub returns : goal.returns
returns c = same_actors_act
