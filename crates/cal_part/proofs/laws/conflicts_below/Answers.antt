use Rattle.cal_part.proofs.ConflictLemmas.{conflicts_below}
use Rattle.cal_part.proofs.laws.conflicts_below.Goals as goal

pub returns : goal.returns
returns c = conflicts_below
