use Rattle.cal_part.proofs.HeldLemmas.{held_runs}
use Rattle.cal_part.proofs.laws.held_runs.Goals as goal

pub returns : goal.returns
returns c = held_runs
