use Rattle.cal_part.proofs.ConflictLemmas.{conflicts_are_of_instances}
use Rattle.cal_part.proofs.laws.conflicts_are_of_instances.Goals as goal

pub returns : goal.returns
returns c = conflicts_are_of_instances
